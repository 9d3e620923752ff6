-- The definitions of scripts, at texts.
use Rattle.std.proofs.Common.{◌≡◌, ℕ, ◌<◌, ◌≤◌, List, [], ◌∷◌, ◌++◌, inl, inr, get_or, codes, decimal, refl, lit≤, lit<, sym, ap, ◌∙◌, arith}
use Rattle.std.specs.Fmt.{digits}
use Rattle.std.proofs.lemmas.Fmt.{decimal_digit, decimal_injective}
use Rattle.rm_events.specs.declared.events.Actor.{Actor}
use Rattle.rm_events.specs.declared.events.Actor.TheVariants as actor
use Rattle.rm_events.specs.declared.lines.Line.{Line}
use Rattle.rm_events.specs.declared.lines.Line.TheVariants as line
use Rattle.rm_events.specs.declared.lines.Target.TheVariants as target
use Rattle.rm_events.specs.declared.lines.Word.{Word}
use Rattle.rm_events.specs.declared.lines.Word.TheVariants as word
use Rattle.rm_script.specs.Grammar.{AreTurnLines, IsFirstWrong, IsLeft, IsScript}
use Rattle.rm_script.specs.Lines.{lines_of}
use Rattle.rm_script.specs.Operations.{IsLine}
use Rattle.rm_script.specs.Turns.{IsActor, IsTurnLine, IsWord, turns_of}
use Rattle.rm_script.proofs.CutLaws.{Lacks-from_test}
use Rattle.rm_script.proofs.OperationLaws.{marked}
use Rattle.rm_script.proofs.TurnLaws.{no_actor_alone}

-- two LFs one after another end a line each, and the last line may lack its LF
empty_line : lines_of (codes "a\n\nb") ≡ codes "a" ∷ [] ∷ codes "b" ∷ []
empty_line = refl

ended : lines_of (codes "a\n") ≡ codes "a" ∷ []
ended = refl

no_lines : lines_of (codes "") ≡ []
no_lines = refl

inserts : IsLine (line.Insert 0 (97 ∷ 97 ∷ [])) (codes "insert $a 2*61")
inserts = (
  codes "2*61",
  lit< tt,
  inl (record { count = 2; byte = 97; short = lit≤ tt; is_byte = lit< tt; row_is = refl; text_is = ap (λ digits. digits ++ codes "*61") (sym (decimal_digit 2 (lit< tt))) }),
  refl,
)

updates : IsLine (line.Update (target.Name 25) (0 ∷ 255 ∷ [])) (codes "update $z 00ff")
updates = (
  codes "$z",
  codes "00ff",
  (lit< tt, refl),
  inr (record { nonempty = lit< tt; short = lit≤ tt; are_bytes = (lit< tt, (lit< tt, tt)); text_is = refl }),
  refl,
)

saves : IsLine (line.Save 255) (codes "save 255")
unfolding digits
saves = (lit< tt, refl)

-- a word with a count of one, and one without
counted : IsWord 1 (word.Turns (actor.Session 1) 1) (codes "1*1")
unfolding digits
counted = (codes "1", (lit< tt, lit≤ tt, refl), lit< tt, lit≤ tt, inr refl)

alone : IsWord 1 (word.Turns (actor.Session 1) 1) (codes "1")
unfolding digits
alone = (codes "1", (lit< tt, lit≤ tt, refl), lit< tt, lit≤ tt, inl (refl, refl))

flushes : IsWord 0 (word.Turns actor.Flush 12) (codes "f*12")
unfolding digits
flushes = (codes "f", refl, lit< tt, lit≤ tt, inr refl)

-- the words of a script
abbrev its_words : List Word
its_words = word.Turns (actor.Session 1) 1 ∷ word.Turns actor.Flush 12 ∷ word.Finish 7 ∷ []

turn_lines : AreTurnLines 2 its_words (codes "1 f*12" ∷ codes "finish 7" ∷ [])
unfolding digits
turn_lines =
    let first : IsWord 2 (word.Turns (actor.Session 1) 1) (codes "1") = (codes "1", (lit< tt, lit≤ tt, refl), lit< tt, lit≤ tt, inl (refl, refl)) in
    let second : IsWord 2 (word.Turns actor.Flush 12) (codes "f*12") = (codes "f", refl, lit< tt, lit≤ tt, inr refl) in
    let rounds : IsTurnLine 2 (word.Finish 7 ∷ []) (codes "finish 7") = inr (7, lit< tt, refl, refl) in
    (word.Turns (actor.Session 1) 1 ∷ word.Turns actor.Flush 12 ∷ [], word.Finish 7 ∷ [], inl (first, (second, tt)), (word.Finish 7 ∷ [], [], rounds, refl, refl), refl)

-- the whole of it, of two sessions, the second one empty
two_sessions : IsScript ((line.Begin ∷ line.Commit ∷ []) ∷ [] ∷ []) its_words (lines_of (codes "session 1\nbegin\ncommit\nsession 2\nturns\n1 f*12\nfinish 7\n"))
unfolding digits
two_sessions = (lit< tt, refl, (refl, (refl, (lit< tt, refl, (refl, turn_lines)))))

-- that is one turn, twelve, and seven rounds of two
its_turns : turns_of 2 its_words ≡ 27
its_turns = refl

-- the first session has the number 1
wrong_number : IsFirstWrong 1 (codes "session 2\nbegin")
unfolding digits
wrong_number = record {
  right = [];
  wrong = codes "session 2";
  rest = codes "begin" ∷ [];
  cut = refl;
  begins = ([], [], [], refl);
  goes_wrong = λ begins. goes_on begins.0 begins.1 begins.2 begins.3;
  is_number = refl;
} where
  goes_on : (sessions : List (List Line)) (words : List Word) (more : List (List ℕ)) → IsScript sessions words (codes "session 2" ∷ more) → ⊥
  goes_on [] words more h = omega (arith, ap (λ t. get_or t 0 0) h.0)
  goes_on (lines ∷ sessions) words more h = omega (arith, ap (λ t. get_or t 8 0) h.1)

-- a word before `turns` is no line of a session
word_before_turns : IsFirstWrong 2 (codes "session 1\n1")
unfolding digits
word_before_turns = record {
  right = codes "session 1" ∷ [];
  wrong = codes "1";
  rest = [];
  cut = refl;
  begins = ([] ∷ [], [], [], (lit< tt, refl, refl));
  goes_wrong = λ begins. goes_on begins.0 begins.1 begins.2 begins.3;
  is_number = refl;
} where
  in_session : (lines : List Line) (sessions : List (List Line)) (words : List Word) (more : List (List ℕ)) → IsLeft 1 lines sessions words (codes "1" ∷ more) → ⊥
  in_session [] [] words more h = let e = h.0 in cc
  in_session [] (lines ∷ sessions) words more h = let e = h.1 in cc
  in_session (said ∷ lines) sessions words more h = no_line said h.0 where
    no_line : (said : Line) → IsLine said (codes "1") → ⊥
    no_line line.Begin p = omega (arith, marked line.Begin _ p)
    no_line said p = omega (arith, marked said _ p)

  goes_on : (sessions : List (List Line)) (words : List Word) (more : List (List ℕ)) → IsScript sessions words (codes "session 1" ∷ codes "1" ∷ more) → ⊥
  goes_on [] words more h = let e = h.0 in cc
  goes_on (lines ∷ sessions) words more h = in_session lines sessions words more h.2

-- a word names a session of the script
second : (n number : ℕ) (text : List ℕ) → n < 2 → number ≤ n → text ≡ decimal 2 → text ≡ decimal number → ⊥
second n number text few below e e' =
    let same : 2 ≡ number = decimal_injective 2 number (lit< tt) (omega arith) (sym e ∙ e') in omega arith

no_second : (who : Actor) (text : List ℕ) → text ≡ decimal 2 → get_or text 0 0 < 58 → IsActor 1 who text → ⊥
no_second (actor.Session number) text e low p = second 1 number text (lit< tt) p.1 e p.2
no_second actor.Flush text e low p = omega (arith, ap (λ t. get_or t 0 0) p)
no_second actor.Clean text e low p = p
no_second actor.Checkpoint text e low p = p
no_second actor.Copy text e low p = p

word_of_no_session : (given : Word) → IsWord 1 given (codes "2") → ⊥
word_of_no_session = no_actor_alone 1 (codes "2") (Lacks-from_test 42 (codes "2") refl) (λ who. no_second who (codes "2") (sym (decimal_digit 2 (lit< tt))) (lit< tt))
