-- What is kept of a list of changes, and that it is kept in the other order too.
use Rattle.std.proofs.Common.{◌≡◌, ℕ, Bool, true, false, not, cond, eqb, List, [], ◌∷◌, ◌++◌, reverse, refl, sym, ap, ◌∙◌, inl, inr}
use Rattle.std.specs.List.{filter}
use Rattle.std.proofs.lemmas.Bool.{cases_eq, eq-eqb, ne_eqb}
use Rattle.std.proofs.lemmas.List.{reverse-append}
use Rattle.std.proofs.lemmas.List.Elements.{filter-append}
use Rattle.rm_history.specs.Acts.{Change}
use Rattle.rm_history.specs.Pending.{without}
use Rattle.rm_history.specs.Pending.{of_txn}

-- a change is of the transaction
abbrev pub is_of : ℕ → Change → Bool
is_of txn change = eqb change.txn txn

pub without-is : (txn : ℕ) (changes : List Change) → without changes txn ≡ filter (λ c. not (is_of txn c)) changes
without-is txn [] = refl
without-is txn (newest ∷ before) =
    elim (cases_eq newest.txn txn) [
      | inl same ↦ rw (eq-eqb newest.txn txn same) (without-is txn before)
      | inr other ↦ rw (ne_eqb newest.txn txn other) (ap (λ (l : List Change). newest ∷ l) (without-is txn before))
    ]

pub of_txn-is : (txn : ℕ) (changes : List Change) → of_txn txn changes ≡ filter (is_of txn) changes
of_txn-is txn [] = refl
of_txn-is txn (newest ∷ before) =
    elim (cases_eq newest.txn txn) [
      | inl same ↦ rw (eq-eqb newest.txn txn same) (ap (λ (l : List Change). newest ∷ l) (of_txn-is txn before))
      | inr other ↦ rw (ne_eqb newest.txn txn other) (of_txn-is txn before)
    ]

one_kept : (test : Change → Bool) (x : Change) → reverse (filter test (x ∷ [])) ≡ filter test (x ∷ [])
one_kept test x = elim (test x) as (λ b. reverse (cond b (x ∷ []) []) ≡ cond b (x ∷ []) []) [ true ↦ refl | false ↦ refl ]

pub filter-reverse : (test : Change → Bool) (changes : List Change) → reverse (filter test changes) ≡ filter test (reverse changes)
filter-reverse test [] = refl
filter-reverse test (x ∷ xs) =
    ap reverse (filter-append test (x ∷ []) xs) ∙ reverse-append (filter test (x ∷ [])) (filter test xs)
    ∙ ap (λ (l : List Change). l ++ reverse (filter test (x ∷ []))) (filter-reverse test xs)
    ∙ ap (λ (l : List Change). filter test (reverse xs) ++ l) (one_kept test x)
    ∙ sym (ap (filter test) (reverse-append (x ∷ []) xs) ∙ filter-append test (reverse xs) (x ∷ []))
