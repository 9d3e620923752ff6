-- The lines that were read so far.
use Rattle.std.proofs.Common.{◌≡◌, ℕ, suc, ◌+◌, ◌<◌, List, [], ◌∷◌, ◌++◌, length, refl, sym, ap, ◌∙◌, append_assoc}
use Rattle.rm_plain.specs.declared.lines.Line.{Line}
use Rattle.rm_plain.specs.Grammar.{IsLine, AreLines, IsFirstWrong}
use Rattle.rm_plain.specs.Reading.{HasRead, StopsAt}
use Rattle.rm_script.specs.Lines.{lines_of}
use Rattle.rm_script.proofs.FirstLines.{lines_are_left}

-- one line more
pub AreLines-push : (lines : List Line) (right : List (List ℕ)) (said : Line) (text : List ℕ) → AreLines lines right → IsLine said text → AreLines (lines ++ said ∷ []) (right ++ text ∷ [])
AreLines-push [] [] said text h l = (l, tt)
AreLines-push [] (other ∷ right) said text h l = absurd h
AreLines-push (a ∷ lines) [] said text h l = absurd h
AreLines-push (a ∷ lines) (other ∷ right) said text h l = (h.0, AreLines-push lines right said text h.1 l)

pub length-AreLines : (lines : List Line) (right : List (List ℕ)) → AreLines lines right → length lines ≡ length right
length-AreLines [] [] h = refl
length-AreLines [] (text ∷ right) h = absurd h
length-AreLines (a ∷ lines) [] h = absurd h
length-AreLines (a ∷ lines) (text ∷ right) h = ap suc (length-AreLines lines right h.1)

pub HasRead-more : (bytes : List ℕ) (lines more : List Line) (rest text after : List ℕ) (said : Line) → HasRead bytes lines rest → lines_of rest ≡ text ∷ lines_of after → IsLine said text → more ≡ lines ++ said ∷ [] → HasRead bytes more after
HasRead-more bytes lines more rest text after said h first l e =
    rw e (h.0 ++ text ∷ [], AreLines-push lines h.0 said text h.1 l, h.2 ∙ ap (λ ls. h.0 ++ ls) first ∙ sym (append_assoc h.0 (text ∷ []) (lines_of after)))

wrong_next : (bytes : List ℕ) (lines : List Line) (right left : List (List ℕ)) (number : ℕ) → AreLines lines right → lines_of bytes ≡ right ++ left → StopsAt left → (left ≡ [] → ⊥) → number ≡ length lines + 1 → IsFirstWrong number bytes
wrong_next bytes lines right [] number h cut stops some e = absurd (some refl)
wrong_next bytes lines right (text ∷ left) number h cut stops some e = record {
  before = lines;
  right = right;
  wrong = text;
  rest = left;
  cut = cut;
  spelled = h;
  is_wrong = stops text left refl;
  is_number = e ∙ ap (λ n. n + 1) (length-AreLines lines right h);
}

-- where lines are left in which no line of a script comes next, that one is wrong
pub first_wrong : (bytes : List ℕ) (lines : List Line) (rest : List ℕ) (number : ℕ) → HasRead bytes lines rest → StopsAt (lines_of rest) → 0 < length rest → number ≡ length lines + 1 → IsFirstWrong number bytes
first_wrong bytes lines rest number h stops some e = wrong_next bytes lines h.0 (lines_of rest) number h.1 h.2 stops (lines_are_left rest some) e
