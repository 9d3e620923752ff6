-- What holds of scripts in the form of `turns`: each is of one list of lines, and has no wrong line; of
-- other bytes one line is the first that is wrong.
use Rattle.std.proofs.Common.{◌≡◌, ℕ, ◌<◌, List, [], ◌∷◌, ◌++◌, length, codes, inl, inr, refl, sym, ap, ◌∙◌, subst, arith, append_assoc, append-nil}
use Rattle.std.proofs.lemmas.Bool.{cases_order}
use Rattle.std.proofs.lemmas.List.{append_cancel_right}
use Rattle.rm_plain.specs.declared.lines.Line.{Line}
use Rattle.rm_plain.specs.Grammar.{AreLines, IsSessionForm, IsTurns, BeginsTurns, GoesWrong, IsFirstWrongTurns, session_texts}
use Rattle.rm_script.specs.Lines.{lines_of}
use Rattle.rm_plain.specs.Laws.{TurnsReadingsAreOne}
use Rattle.rm_plain.proofs.Readings.{same_lines}

-- the end of every script in the form
abbrev ending : List (List ℕ)
ending = codes "turns" ∷ codes "finish 200000" ∷ []

rest_of : (first : List ℕ) (texts others : List (List ℕ)) → first ∷ texts ≡ first ∷ others → texts ≡ others
rest_of first texts others e = cc

same_inner : (inner other : List (List ℕ)) → session_texts inner ≡ session_texts other → inner ≡ other
same_inner inner other e = append_cancel_right inner other ending (rest_of (codes "session 1") (inner ++ ending) (other ++ ending) e)

same_form : (texts : List (List ℕ)) (lines others : List Line) → IsSessionForm lines texts → IsSessionForm others texts → lines ≡ others
same_form texts lines others a b =
    let inner = same_inner a.0 b.0 (sym a.2 ∙ b.2) in
    same_lines b.0 lines others (subst (AreLines lines) inner a.1) b.1

pub turns_readings_are_one : TurnsReadingsAreOne
turns_readings_are_one bytes lines others a b = same_form (lines_of bytes) lines others a b

-- no script in the form goes wrong
right_goes_on : (texts right rest : List (List ℕ)) (lines : List Line) → IsSessionForm lines texts → texts ≡ right ++ rest → GoesWrong right rest → ⊥
right_goes_on texts right [] lines form e wrong = wrong lines (subst (IsSessionForm lines) (e ∙ append-nil right) form)
right_goes_on texts right (next ∷ rest) lines form e wrong =
    wrong (lines, rest, subst (IsSessionForm lines) (e ∙ sym (append_assoc right (next ∷ []) rest)) form)

pub none_wrong : (bytes : List ℕ) (lines : List Line) (number : ℕ) → IsTurns lines bytes → IsFirstWrongTurns number bytes → ⊥
none_wrong bytes lines number form first = right_goes_on (lines_of bytes) first.right first.rest lines form first.cut first.goes_wrong

-- texts that begin a script in the form have no prefix that goes wrong before they end
prefix_of : (right rest other rest' : List (List ℕ)) → right ++ rest ≡ other ++ rest' → length right < length other → (more : List (List ℕ)) × (other ≡ right ++ more) × (0 < length more) × (rest ≡ more ++ rest')
prefix_of [] rest other rest' e short = (other, refl, short, e)
prefix_of (text ∷ right) rest [] rest' e short = absurd (omega arith)
prefix_of (text ∷ right) rest (first ∷ other) rest' e short =
    let tails : right ++ rest ≡ other ++ rest' = cc in
    let prefix = prefix_of right rest other rest' tails (omega arith) in
    let same : first ≡ text = cc in
    (prefix.0, ap (λ t. t ∷ other) same ∙ ap (λ ts. text ∷ ts) prefix.1, prefix.2, prefix.3)

longer_wrong : (right rest more rest' : List (List ℕ)) → rest ≡ more ++ rest' → 0 < length more → BeginsTurns (right ++ more) → GoesWrong right rest → ⊥
longer_wrong right rest [] rest' e some begins wrong = absurd (omega (arith, some))
longer_wrong right [] (next ∷ more) rest' e some begins wrong = cc
longer_wrong right (text ∷ rest) (next ∷ more) rest' e some begins wrong =
    let same : next ≡ text = cc in
    let whole : (right ++ next ∷ more) ++ begins.1 ≡ (right ++ text ∷ []) ++ (more ++ begins.1) =
    append_assoc right (next ∷ more) begins.1 ∙ ap (λ t. right ++ t ∷ (more ++ begins.1)) same ∙ sym (append_assoc right (text ∷ []) (more ++ begins.1))
    in
    wrong (begins.0, more ++ begins.1, subst (IsSessionForm begins.0) whole begins.2)

not_before : (bytes : List ℕ) (number other : ℕ) → IsFirstWrongTurns number bytes → IsFirstWrongTurns other bytes → number < other → ⊥
not_before bytes number other a b short =
    let prefix = prefix_of a.right a.rest b.right b.rest (sym a.cut ∙ b.cut) (omega (arith, a.is_number, b.is_number, short)) in
    longer_wrong a.right a.rest prefix.0 b.rest prefix.3 prefix.2 (subst BeginsTurns prefix.1 b.begins) a.goes_wrong

pub one_wrong : (bytes : List ℕ) (number other : ℕ) → IsFirstWrongTurns number bytes → IsFirstWrongTurns other bytes → number ≡ other
one_wrong bytes number other a b =
    elim (cases_order number other) [
      | inl same ↦ same
      | inr (inl below) ↦ absurd (not_before bytes number other a b below)
      | inr (inr above) ↦ absurd (not_before bytes other number b a above)
    ]
