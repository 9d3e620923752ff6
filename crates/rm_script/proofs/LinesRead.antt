-- Lines that were read one after another, and what comes next.
use Rattle.std.proofs.Common.{◌≡◌, ℕ, List, [], ◌∷◌, ◌++◌, refl, sym, ap, subst, ◌∙◌, append_assoc, append-nil}
use Rattle.std.specs.List.{AllZip}
use Rattle.rm_events.specs.declared.lines.Line.{Line}
use Rattle.rm_events.specs.declared.lines.Word.{Word}
use Rattle.rm_script.specs.Grammar.{AreTurnLines}
use Rattle.rm_script.specs.Lines.{lines_of}
use Rattle.rm_script.specs.Operations.{IsLine}
use Rattle.rm_script.specs.Reading.{HasRead, StopsAt}
use Rattle.rm_script.specs.Turns.{IsTurnLine}

-- what stands before the first of the lines that are left
pub HasRead-more : (P Q : List (List ℕ) → Type 0) (bytes rest text after : List ℕ) → HasRead P bytes rest → lines_of rest ≡ text ∷ lines_of after → ((right : List (List ℕ)) → P right → Q (right ++ text ∷ [])) → HasRead Q bytes after
HasRead-more P Q bytes rest text after h first more = (
  h.0 ++ text ∷ [],
  more h.0 h.1,
  h.2 ∙ ap (λ ts. h.0 ++ ts) first ∙ sym (append_assoc h.0 (text ∷ []) (lines_of after)),
)

-- a text of which that does not hold stops the reading
pub stops_here : (P : List ℕ → Type 0) (text : List ℕ) (texts rest : List (List ℕ)) → texts ≡ text ∷ rest → (P text → ⊥) → StopsAt P texts
stops_here P text texts rest e none = λ other p more e'. let same : other ≡ text = cc in none (subst P same p)

-- one operation line more
pub lines_more : (lines more : List Line) (said : Line) (text : List ℕ) → more ≡ lines ++ said ∷ [] → IsLine said text → (right : List (List ℕ)) → AllZip IsLine lines right → AllZip IsLine more (right ++ text ∷ [])
lines_more lines more said text e l right h = rw e (push lines right h) where
  push : (lines : List Line) (right : List (List ℕ)) → AllZip IsLine lines right → AllZip IsLine (lines ++ said ∷ []) (right ++ text ∷ [])
  push [] [] h = (l, tt)
  push [] (other ∷ right) h = absurd h
  push (a ∷ lines) [] h = absurd h
  push (a ∷ lines) (other ∷ right) h = (h.0, push lines right h.1)

-- one turn line more
pub turns_more : (n : ℕ) (own : List Word) (text : List ℕ) → IsTurnLine n own text → (words : List Word) (right : List (List ℕ)) → AreTurnLines n words right → AreTurnLines n (words ++ own) (right ++ text ∷ [])
turns_more n own text l words [] h = (own, [], l, refl, ap (λ ws. ws ++ own) h ∙ sym (append-nil own))
turns_more n own text l words (first ∷ right) h =
    let rest = turns_more n own text l h.1 right h.3 in
    (h.0, h.1 ++ own, h.2, rest, ap (λ ws. ws ++ own) h.4 ∙ append_assoc h.0 h.1 own)

-- each of the lines is a turn line
pub turn_line_at : (n : ℕ) (words : List Word) (right : List (List ℕ)) (text : List ℕ) (more : List (List ℕ)) → AreTurnLines n words (right ++ text ∷ more) → (own : List Word) × IsTurnLine n own text
turn_line_at n words [] text more h = (h.0, h.2)
turn_line_at n words (first ∷ right) text more h = turn_line_at n h.1 right text more h.3
