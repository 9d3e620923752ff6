-- Whether something is pending on a page.
use Rattle.std.proofs.Common.{◌≡◌, ℕ, List, [], ◌∷◌, refl, sym, ap, ◌∙◌, inl, inr}
use Rattle.std.proofs.lemmas.Bool.{cases_eq, eq-eqb, ne_eqb}
use Rattle.rm_history.specs.Acts.{Change, History}
use Rattle.rm_history.specs.Pending.{all_pending}
use Rattle.rm_history.specs.Needs.{on_page}
use Rattle.rm_history.specs.Legal.{IsPendingOn}
use Rattle.rm_history.specs.Pending.{of_txn}
use Rattle.rm_history.proofs.AllPending.{pending_of_all}

-- a list with a first is not empty
pub some_change : (first : Change) (rest : List Change) → first ∷ rest ≡ [] → ⊥
some_change first rest is = cc

-- where no change is on the page, none of a transaction is
none_of : (page txn : ℕ) (all : List Change) → on_page page all ≡ [] → on_page page (of_txn txn all) ≡ []
none_of page txn [] none = refl
none_of page txn (newest ∷ before) none =
    elim (cases_eq newest.rid.page page) [
      | inl same ↦ absurd (some_change newest (on_page page before) (rw (eq-eqb newest.rid.page page same) at none))
      | inr other ↦
          let less : on_page page before ≡ [] = rw (ne_eqb newest.rid.page page other) at none in
          elim (cases_eq newest.txn txn) [
            | inl of_it ↦ rw (eq-eqb newest.txn txn of_it, ne_eqb newest.rid.page page other) (none_of page txn before less)
            | inr apart ↦ rw (ne_eqb newest.txn txn apart) (none_of page txn before less)
          ]
    ]

pub nothing_on : (history : History) (pending : List Change) (page : ℕ) → pending ≡ all_pending history → on_page page pending ≡ []
    → IsPendingOn history page → ⊥
nothing_on history pending page is none some =
    some.1 (ap (on_page page) (pending_of_all history some.0) ∙ none_of page some.0 (all_pending history) (ap (on_page page) (sym is) ∙ none))

pub something_on : (history : History) (pending : List Change) (page txn : ℕ) → pending ≡ all_pending history
    → (on_page page (of_txn txn pending) ≡ [] → ⊥) → IsPendingOn history page
something_on history pending page txn is some =
    (txn, λ none. some (ap (λ (l : List Change). on_page page (of_txn txn l)) is ∙ sym (ap (on_page page) (pending_of_all history txn)) ∙ none))
