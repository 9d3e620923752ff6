-- Needs that are put into a map, transaction by transaction.
use Rattle.std.proofs.Common.{◌≡◌, ◌⊎◌, ℕ, List, [], ◌∷◌, ap, ◌∙◌, inl, inr}
use Rattle.std.proofs.lemmas.Bool.{eq-eqb}
use Rattle.rm_history.specs.Acts.{Change}
use Rattle.rm_history.specs.Pending.{without}
use Rattle.rm_history.specs.Needs.{on_page, need_for}
use Rattle.rm_history.specs.Pending.{of_txn}
use Rattle.rm_audit.specs.Parts.{need_in, IsLed}
use Rattle.rm_history.proofs.AllPending.{of_txn-without, of_txn-without_other}

-- Of the first changes some are left: a transaction has none of these and its need is put, or it has all of its own and none is put.
abbrev pub IsPut : List Change → List Change → ℕ → ℕ → ℕ → Type 0
IsPut first now page txn value =
    ((of_txn txn now ≡ []) × (value ≡ need_in first page txn))
    ⊎ ((of_txn txn now ≡ of_txn txn first) × (value ≡ 0))

-- where a change is of the transaction, it has some
some_of : (txn : ℕ) (all : List Change) → IsLed txn all → of_txn txn all ≡ [] → ⊥
some_of txn [] led none = led
some_of txn (newest ∷ before) led none =
    let one : of_txn txn (newest ∷ before) ≡ newest ∷ of_txn txn before = rw (eq-eqb newest.txn txn led) in
    cc

-- the need of the newest change's transaction is put, and its changes are taken out
pub put_mine : (first now next : List Change) (page txn value need : ℕ) → IsLed txn now → next ≡ without now txn
    → need ≡ need_in now page txn → IsPut first now page txn value
    → IsPut first next page txn need
put_mine first now next page txn value need led left is (inl done) = absurd (some_of txn now led done.0)
put_mine first now next page txn value need led left is (inr begun) =
    inl (ap (of_txn txn) left ∙ of_txn-without txn now, is ∙ ap (λ (l : List Change). need_for (on_page page l)) begun.0)

-- the others keep theirs
pub put_other : (first now next : List Change) (page by txn value : ℕ) → (by ≡ txn → ⊥) → next ≡ without now by
    → IsPut first now page txn value → IsPut first next page txn value
put_other first now next page by txn value other left (inl done) = inl (ap (of_txn txn) left ∙ of_txn-without_other txn by now other ∙ done.0, done.1)
put_other first now next page by txn value other left (inr begun) = inr (ap (of_txn txn) left ∙ of_txn-without_other txn by now other ∙ begun.0, begun.1)

-- with none left all needs are put
pub all_put : (first : List Change) (page txn value : ℕ) → IsPut first [] page txn value → value ≡ need_in first page txn
all_put first page txn value (inl done) = done.1
all_put first page txn value (inr begun) = begun.1 ∙ ap (λ (l : List Change). need_for (on_page page l)) begun.0
