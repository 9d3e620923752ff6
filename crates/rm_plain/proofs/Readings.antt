-- No text spells two lines, so no bytes spell two scripts.
use Rattle.std.proofs.Common.{◌≡◌, ℕ, List, [], ◌∷◌, get_or, drop, refl, sym, ap, ◌∙◌, arith}
use Rattle.rm_plain.specs.declared.lines.Line.{Line}
use Rattle.rm_plain.specs.declared.lines.Line.TheVariants as line
use Rattle.rm_plain.specs.Grammar.{IsLine, AreLines}
use Rattle.rm_plain.specs.Laws.{ReadingsAreOne}
use Rattle.rm_script.proofs.RowLaws.{same_row}
use Rattle.rm_script.proofs.TargetLaws.{same_target}

-- two lines that begin with different letters have different texts
apart : (text other : List ℕ) → (get_or text 0 0 ≡ get_or other 0 0 → ⊥) → text ≡ other → ⊥
apart text other differ e = differ (ap (λ t. get_or t 0 0) e)

-- no text spells two lines
pub same_line : (a b : Line) (text : List ℕ) → IsLine a text → IsLine b text → a ≡ b
same_line line.Begin line.Begin text p q = refl
same_line line.Begin (line.Insert n s) text p q = absurd (apart _ _ (λ e. omega (arith, e)) (sym p ∙ q.1.2))
same_line line.Begin (line.Read t) text p q = absurd (apart _ _ (λ e. omega (arith, e)) (sym p ∙ q.2))
same_line line.Begin line.Commit text p q = absurd (apart _ _ (λ e. omega (arith, e)) (sym p ∙ q))
same_line (line.Insert m r) line.Begin text p q = absurd (apart _ _ (λ e. omega (arith, e)) (sym q ∙ p.1.2))
same_line (line.Insert m r) (line.Insert n s) text p q =
    let e = sym p.1.2 ∙ q.1.2 in
    let name : m ≡ n = omega (arith, ap (λ t. get_or t 8 0) e) in
    let spelling : p.1.0 ≡ q.1.0 = ap (drop 10) e in
    let row = same_row r s q.1.0 (rw spelling at p.1.1) q.1.1 in
    ap (λ k. line.Insert k r) name ∙ ap (line.Insert n) row
same_line (line.Insert m r) (line.Read t) text p q = absurd (apart _ _ (λ e. omega (arith, e)) (sym p.1.2 ∙ q.2))
same_line (line.Insert m r) line.Commit text p q = absurd (apart _ _ (λ e. omega (arith, e)) (sym q ∙ p.1.2))
same_line (line.Read u) line.Begin text p q = absurd (apart _ _ (λ e. omega (arith, e)) (sym q ∙ p.2))
same_line (line.Read u) (line.Insert n s) text p q = absurd (apart _ _ (λ e. omega (arith, e)) (sym q.1.2 ∙ p.2))
same_line (line.Read u) (line.Read t) text p q =
    let spelling : p.0 ≡ q.0 = ap (drop 5) (sym p.2 ∙ q.2) in
    ap line.Read (same_target u t q.0 (rw spelling at p.1) q.1)
same_line (line.Read u) line.Commit text p q = absurd (apart _ _ (λ e. omega (arith, e)) (sym q ∙ p.2))
same_line line.Commit line.Begin text p q = absurd (apart _ _ (λ e. omega (arith, e)) (sym p ∙ q))
same_line line.Commit (line.Insert n s) text p q = absurd (apart _ _ (λ e. omega (arith, e)) (sym p ∙ q.1.2))
same_line line.Commit (line.Read t) text p q = absurd (apart _ _ (λ e. omega (arith, e)) (sym p ∙ q.2))
same_line line.Commit line.Commit text p q = refl

pub same_lines : (texts : List (List ℕ)) (lines others : List Line) → AreLines lines texts → AreLines others texts → lines ≡ others
same_lines [] [] [] p q = refl
same_lines [] [] (b ∷ others) p q = absurd q
same_lines [] (a ∷ lines) others p q = absurd p
same_lines (text ∷ texts) [] others p q = absurd p
same_lines (text ∷ texts) (a ∷ lines) [] p q = absurd q
same_lines (text ∷ texts) (a ∷ lines) (b ∷ others) p q =
    ap (λ said. said ∷ lines) (same_line a b text p.0 q.0) ∙ ap (λ rest. b ∷ rest) (same_lines texts lines others p.1 q.1)

pub readings_are_one : ReadingsAreOne
readings_are_one bytes lines others p q = same_lines _ lines others p q
