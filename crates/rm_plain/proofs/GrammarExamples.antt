-- The definitions of the forms of scripts, at texts.
use Rattle.std.proofs.Common.{[], ◌∷◌, ◌++◌, inl, inr, codes, refl, lit≤, lit<, ap, sym}
use Rattle.std.proofs.lemmas.Fmt.{decimal_digit}
use Rattle.rm_plain.specs.declared.lines.Line.TheVariants as line
use Rattle.rm_events.specs.declared.lines.Target.TheVariants as target
use Rattle.rm_plain.specs.Grammar.{IsLine, IsPlain, IsTurns, IsFirstWrongTurns}
use Rattle.rm_plain.proofs.WrongTurns.{begins_front, wrong_session, wrong_turns, wrong_end}

begins_and_commits : IsPlain (line.Begin ∷ line.Commit ∷ []) (codes "begin\ncommit")
begins_and_commits = (refl, (refl, tt))

inserts : IsLine (line.Insert 0 (97 ∷ 97 ∷ [])) (codes "insert $a 2*61")
inserts = (
  lit< tt,
  (codes "2*61", inl (record { count = 2; byte = 97; short = lit≤ tt; is_byte = lit< tt; row_is = refl; text_is = ap (λ digits. digits ++ codes "*61") (sym (decimal_digit 2 (lit< tt))) }), refl),
)

writes_out : IsLine (line.Insert 25 (0 ∷ 255 ∷ [])) (codes "insert $z 00ff")
writes_out = (
  lit< tt,
  (codes "00ff", inr (record { nonempty = lit< tt; short = lit≤ tt; are_bytes = (lit< tt, (lit< tt, tt)); text_is = refl }), refl),
)

reads : IsLine (line.Read (target.Name 1)) (codes "read $b")
reads = (codes "$b", (lit< tt, refl), refl)

turns_of_nothing : IsTurns [] (codes "session 1\nturns\nfinish 200000\n")
turns_of_nothing = ([], tt, refl)

turns_of_two : IsTurns (line.Begin ∷ line.Commit ∷ []) (codes "session 1\nbegin\ncommit\nturns\nfinish 200000")
turns_of_two = (codes "begin" ∷ codes "commit" ∷ [], (refl, (refl, tt)), refl)

-- where a script has no lines, the first is lacking
turns_without_lines : IsFirstWrongTurns 1 (codes "")
turns_without_lines = record {
  right = [];
  rest = [];
  cut = refl;
  begins = begins_front [] [] [] (codes "session 1" ∷ codes "turns" ∷ codes "finish 200000" ∷ []) tt refl;
  goes_wrong = wrong_session [] (λ texts e. cc);
  is_number = refl;
}

-- and where it ends after its operations, the next one
turns_without_turns : IsFirstWrongTurns 3 (codes "session 1\nbegin\n")
turns_without_turns = record {
  right = codes "session 1" ∷ codes "begin" ∷ [];
  rest = [];
  cut = refl;
  begins = begins_front (line.Begin ∷ []) (codes "begin" ∷ []) (codes "session 1" ∷ codes "begin" ∷ []) (codes "turns" ∷ codes "finish 200000" ∷ []) (refl, tt) refl;
  goes_wrong = wrong_turns (line.Begin ∷ []) (codes "begin" ∷ []) [] (refl, tt) (λ said text texts e. cc) (λ texts e. cc);
  is_number = refl;
}

-- a line after the last is wrong
turns_and_more : IsFirstWrongTurns 4 (codes "session 1\nturns\nfinish 200000\ncommit")
turns_and_more = record {
  right = codes "session 1" ∷ codes "turns" ∷ codes "finish 200000" ∷ [];
  rest = codes "commit" ∷ [];
  cut = refl;
  begins = begins_front [] [] (codes "session 1" ∷ codes "turns" ∷ codes "finish 200000" ∷ []) [] tt refl;
  goes_wrong = wrong_end [] [] (codes "commit" ∷ []) tt (λ e. cc);
  is_number = refl;
}
