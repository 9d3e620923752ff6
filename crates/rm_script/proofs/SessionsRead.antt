-- The sessions of a script, as they are read one after another.
use Rattle.std.proofs.Common.{◌≡◌, ℕ, suc, ◌+◌, ◌<◌, ◌^◌, List, [], ◌∷◌, ◌++◌, length, drop, codes, decimal, refl, sym, ap, subst, ◌∙◌, arith, append_assoc, length-append, add-one, Vec}
use Rattle.std.specs.declared.alloc.Global.{Global}
use Rattle.std.specs.List.{AllZip}
use Rattle.std.proofs.lemmas.Fmt.{decimal_injective}
use Rattle.std.proofs.lemmas.List.{map-append}
use Rattle.rm_types.specs.declared.numbers.TheConstants.{MAX_SESSIONS}
use Rattle.rm_events.specs.declared.lines.Line.{Line}
use Rattle.rm_events.specs.declared.lines.Line.TheVariants as line
use Rattle.rm_events.specs.declared.lines.Word.{Word}
use Rattle.rm_script.specs.Grammar.{IsLeft, lines_in, session_text}
use Rattle.rm_script.specs.Lines.{lines_of}
use Rattle.rm_script.specs.Operations.{IsLine}
use Rattle.rm_script.specs.Reading.{AreSessions, HasRead, IsSomeLine, LacksFirst, StopsAt}
use Rattle.rm_script.proofs.OperationLaws.{marked}

-- the line that begins a session
pub is_session : (texts after : List (List ℕ)) (text digits : List ℕ) (n number : ℕ) → texts ≡ text ∷ after → text ≡ codes "session " ++ digits → digits ≡ decimal number → number ≡ n + 1 → texts ≡ session_text (suc n) ∷ after
is_session texts after text digits n number first e d same =
    first ∙ ap (λ t. t ∷ after) (e ∙ ap (λ ds. codes "session " ++ ds) (d ∙ ap decimal (same ∙ add-one n)))

pub other_session : (texts after : List (List ℕ)) (text digits : List ℕ) (n number : ℕ) → n < MAX_SESSIONS → number < 2 ^ 32 → texts ≡ text ∷ after → text ≡ codes "session " ++ digits → digits ≡ decimal number → (number ≡ n + 1 → ⊥) → LacksFirst (session_text (suc n)) texts
other_session texts after text digits n number few small first e d differ = λ more e'.
    let same : text ≡ session_text (suc n) = cc in
    let number_is = decimal_injective number (suc n) (omega arith) (omega arith) (sym d ∙ ap (drop 8) (sym e ∙ same)) in
    differ (omega (arith, number_is))

-- no operation line begins a session
pub not_session : (said : Line) (number : ℕ) → IsLine said (session_text number) → ⊥
not_session line.Begin number p = omega (arith, marked line.Begin _ p)
not_session said number p = omega (arith, marked said _ p)

-- nor is it the line before the turn lines
pub not_turns : (said : Line) → IsLine said (codes "turns") → ⊥
not_turns line.Begin p = omega (arith, marked line.Begin _ p)
not_turns said p = omega (arith, marked said _ p)

-- before any line is read
pub none_read : AreSessions 0 [] []
none_read = record {
  count = refl;
  few = omega arith;
  goes_on = λ others words more h. h;
  is_left = λ all words more stops h. (all, h);
}

-- the lines of a session, before what is left of the script
with_lines : (n : ℕ) (lines : List Line) (block : List (List ℕ)) (others : List (List Line)) (words : List Word) (more : List (List ℕ)) → AllZip IsLine lines block → IsLeft n [] others words more → IsLeft n lines others words (block ++ more)
with_lines n [] [] others words more h left = left
with_lines n [] (text ∷ block) others words more h left = absurd h
with_lines n (said ∷ lines) [] others words more h left = absurd h
with_lines n (said ∷ lines) (text ∷ block) others words more h left = (h.0, with_lines n lines block others words more h.1 left)

-- after its lines a session has no other
after_lines : (n : ℕ) (lines own : List Line) (block : List (List ℕ)) (others : List (List Line)) (words : List Word) (more : List (List ℕ)) → AllZip IsLine lines block → StopsAt IsSomeLine more → IsLeft n own others words (block ++ more) → (rest : List (List Line)) × IsLeft n [] rest words more
after_lines n [] [] [] others words more h stops left = (others, left)
after_lines n [] (said ∷ own) [] others words [] h stops left = absurd left
after_lines n [] (said ∷ own) [] others words (text ∷ more) h stops left = absurd (stops text (said, left.0) more refl)
after_lines n [] own (text ∷ block) others words more h stops left = absurd h
after_lines n (said ∷ lines) own [] others words more h stops left = absurd h
after_lines n (said ∷ lines) [] (text ∷ block) [] words more h stops left = absurd (not_turns said (subst (IsLine said) left.0 h.0))
after_lines n (said ∷ lines) [] (text ∷ block) (ls ∷ others) words more h stops left = absurd (not_session said (suc n) (subst (IsLine said) left.1 h.0))
after_lines n (said ∷ lines) (l ∷ own) (text ∷ block) others words more h stops left = after_lines n lines own block others words more h.1 stops left.1

-- after the line of the next session and its lines
after_session : (n : ℕ) (lines : List Line) (block : List (List ℕ)) (others : List (List Line)) (words : List Word) (more : List (List ℕ)) → AllZip IsLine lines block → StopsAt IsSomeLine more → IsLeft n [] others words (session_text (suc n) ∷ (block ++ more)) → (rest : List (List Line)) × IsLeft (suc n) [] rest words more
after_session n lines block [] words more h stops left = cc
after_session n lines block (own ∷ others) words more h stops left = after_lines (suc n) lines own block others words more h stops left.2

pub session_more : (n : ℕ) (sessions all : List (List Line)) (lines : List Line) (right block : List (List ℕ)) → all ≡ sessions ++ lines ∷ [] → n < MAX_SESSIONS → AreSessions n sessions right → AllZip IsLine lines block → AreSessions (suc n) all (right ++ session_text (suc n) ∷ block)
session_more n sessions all lines right block e few s h = rw e (record {
  count = omega (arith, length-append sessions (lines ∷ []), s.count);
  few = omega (arith, few);
  goes_on = λ others words more left.
      rw (append_assoc, append_assoc) (s.goes_on (lines ∷ others) words (session_text (suc n) ∷ (block ++ more)) (few, refl, with_lines (suc n) lines block others words more h left));
  is_left = λ every words more stops whole.
      let next = s.is_left every words (session_text (suc n) ∷ (block ++ more)) (λ some text p rest e'. let same : session_text (suc n) ≡ text = cc in not_session p.0 (suc n) (subst (IsLine p.0) (sym same) p.1)) (rw append_assoc at whole) in
      after_session n lines block next.0 words more h (stops (omega arith)) next.1;
})

-- the same of what was read
pub sessions_more : (sessions all : List (Vec Line Global)) (lines : Vec Line Global) (bytes rest after left : List ℕ) → all ≡ sessions ++ lines ∷ [] → length sessions < MAX_SESSIONS → HasRead (AreSessions (length sessions) (lines_in sessions)) bytes rest → lines_of rest ≡ session_text (suc (length sessions)) ∷ lines_of after → HasRead (AllZip IsLine lines.items) after left → HasRead (AreSessions (length all) (lines_in all)) bytes left
sessions_more sessions all lines bytes rest after left e few h first block =
    let n = length sessions in
    let count : length all ≡ suc n = omega (arith, ap length e, length-append sessions (lines ∷ [])) in
    let all_is : lines_in all ≡ lines_in sessions ++ lines.items ∷ [] = ap lines_in e ∙ map-append _ sessions (lines ∷ []) in (
      h.0 ++ session_text (suc n) ∷ block.0,
      rw count (session_more n (lines_in sessions) (lines_in all) lines.items h.0 block.0 all_is few h.1 block.1),
      h.2 ∙ ap (λ ts. h.0 ++ ts) (first ∙ ap (λ ts. session_text (suc n) ∷ ts) block.2) ∙ sym (append_assoc h.0 (session_text (suc n) ∷ block.0) (lines_of left)),
    )
