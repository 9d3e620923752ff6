-- A script in the plain form, by how far its lines were read.
use Rattle.std.proofs.Common.{◌≡◌, ℕ, ◌+◌, ◌-◌, ◌<◌, List, [], ◌∷◌, ◌++◌, length, refl, ap, subst, ◌∙◌, arith, append-nil, length-append}
use Rattle.rm_events.specs.declared.lines.Line.{Line}
use Rattle.rm_script.specs.Grammar.{AreLines, IsFirstOther}
use Rattle.rm_script.specs.Lines.{lines_of}
use Rattle.rm_script.specs.Reading.{HasRead, IsSomeLine, StopsAt}
use Rattle.rm_script.proofs.FirstLines.{lines_are_left}

-- all of the bytes, where nothing is left
pub all_lines : (lines : List Line) (bytes rest : List ℕ) → HasRead (AreLines lines) bytes rest → rest ≡ [] → AreLines lines (lines_of bytes)
all_lines lines bytes rest h none =
    let whole : lines_of bytes ≡ h.0 = h.2 ∙ ap (λ bs. h.0 ++ lines_of bs) none ∙ append-nil h.0 in
    rw whole h.1

other_next : (lines : List Line) (bytes : List ℕ) (number : ℕ) (right next : List (List ℕ)) → AreLines lines right → lines_of bytes ≡ right ++ next → StopsAt IsSomeLine next
    → (next ≡ [] → ⊥) → number ≡ length (lines_of bytes) - length next + 1 → IsFirstOther number bytes
other_next lines bytes number right [] are cut stops some e = absurd (some refl)
other_next lines bytes number right (wrong ∷ rest) are cut stops some e = record {
  lines = lines;
  right = right;
  wrong = wrong;
  rest = rest;
  cut = cut;
  are_lines = are;
  is_wrong = λ said is. stops wrong (said, is) rest refl;
  is_number = omega (arith, e, ap length cut, length-append right (wrong ∷ rest));
}

-- where something is left, its first line is the first other one
pub first_other : (lines : List Line) (bytes rest : List ℕ) (number : ℕ) → HasRead (AreLines lines) bytes rest → StopsAt IsSomeLine (lines_of rest) → 0 < length rest
    → number ≡ length (lines_of bytes) - length (lines_of rest) + 1 → IsFirstOther number bytes
first_other lines bytes rest number h stops some e = other_next lines bytes number h.0 (lines_of rest) h.1 h.2 stops (lines_are_left rest some) e
