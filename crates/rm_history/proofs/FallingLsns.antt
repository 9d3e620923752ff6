-- The LSNs of pending changes fall, from the newest record's on.
use Rattle.std.proofs.Common.{inl, inr, ℕ, ◌≤◌, List, [], ◌∷◌, sym, subst, arith}
use Rattle.std.proofs.lemmas.Bool.{cases_eq, eq-eqb, ne_eqb}
use Rattle.rm_history.specs.Acts.{Change, History, changes, undoes, enters, commits, ends, marks, newest_lsn}
use Rattle.rm_history.specs.Pending.{pending_of, of_txn, without_newest, without, all_pending, last_of, AreFalling}
use Rattle.rm_history.specs.Rules.{IsInOrder}
use Rattle.rm_history.specs.Laws.{AllPendingIsOfEach}
use Rattle.rm_history.proofs.AllPending.{pending_of_all}

-- the LSNs fall, from this one at the most
abbrev FallFrom : ℕ → List Change → Type 0
FallFrom top pending = AreFalling pending × (last_of pending ≤ top)

-- they do without some of the changes
without_newest_falls : (txn : ℕ) (all : List Change) → AreFalling all → FallFrom (last_of all) (without_newest all txn)
without_newest_falls txn [] falls = (tt, omega arith)
without_newest_falls txn (newest ∷ before) falls = elim (cases_eq newest.txn txn) [
  | inl same ↦ rw (eq-eqb newest.txn txn same) (falls.1, omega (arith, falls.0))
  | inr other ↦ let rest = without_newest_falls txn before falls.1 in rw (ne_eqb newest.txn txn other) ((omega (arith, rest.1, falls.0), rest.0), omega arith)
]

without_falls : (txn : ℕ) (all : List Change) → AreFalling all → FallFrom (last_of all) (without all txn)
without_falls txn [] falls = (tt, omega arith)
without_falls txn (newest ∷ before) falls =
    let rest = without_falls txn before falls.1 in
    elim (cases_eq newest.txn txn) [
      | inl same ↦ rw (eq-eqb newest.txn txn same) (rest.0, omega (arith, rest.1, falls.0))
      | inr other ↦ rw (ne_eqb newest.txn txn other) ((omega (arith, rest.1, falls.0), rest.0), omega arith)
    ]

of_txn_falls : (txn : ℕ) (all : List Change) → AreFalling all → FallFrom (last_of all) (of_txn txn all)
of_txn_falls txn [] falls = (tt, omega arith)
of_txn_falls txn (newest ∷ before) falls =
    let rest = of_txn_falls txn before falls.1 in
    elim (cases_eq newest.txn txn) [
      | inl same ↦ rw (eq-eqb newest.txn txn same) ((omega (arith, rest.1, falls.0), rest.0), omega arith)
      | inr other ↦ rw (ne_eqb newest.txn txn other) (rest.0, omega (arith, rest.1, falls.0))
    ]

-- those of all that is pending
pub all_pending_falls : (history : History) → IsInOrder history → FallFrom (newest_lsn history) (all_pending history)
all_pending_falls [] ordered = (tt, omega arith)
all_pending_falls (changes c ∷ before) ordered =
    let rest = all_pending_falls before ordered.0 in ((omega (arith, rest.1, ordered.1.above), rest.0), omega arith)
all_pending_falls (undoes u ∷ before) ordered =
    let rest = all_pending_falls before ordered.0 in
    let less = without_newest_falls u.txn (all_pending before) rest.0 in (less.0, omega (arith, less.1, rest.1, ordered.1.above))
all_pending_falls (enters e ∷ before) ordered = let rest = all_pending_falls before ordered.0 in (rest.0, omega (arith, rest.1, ordered.1.above))
all_pending_falls (commits f ∷ before) ordered =
    let rest = all_pending_falls before ordered.0 in
    let less = without_falls f.txn (all_pending before) rest.0 in (less.0, omega (arith, less.1, rest.1, ordered.1.above))
all_pending_falls (ends f ∷ before) ordered =
    let rest = all_pending_falls before ordered.0 in
    let less = without_falls f.txn (all_pending before) rest.0 in (less.0, omega (arith, less.1, rest.1, ordered.1.above))
all_pending_falls (marks m ∷ before) ordered = let rest = all_pending_falls before ordered.0 in (rest.0, omega (arith, rest.1, ordered.1.above))

-- and those of what a transaction has pending
pub pending_falls : (history : History) → IsInOrder history → (txn : ℕ) → FallFrom (newest_lsn history) (pending_of history txn)
pending_falls history ordered txn =
    let all = all_pending_falls history ordered in
    let mine = of_txn_falls txn (all_pending history) all.0 in
    subst (FallFrom (newest_lsn history)) (sym (pending_of_all history txn)) (mine.0, omega (arith, mine.1, all.1))

-- all that is pending is what is pending of each transaction
pub all_pending_is_of_each : AllPendingIsOfEach
all_pending_is_of_each = record { each = λ history txn. sym (pending_of_all history txn); falling = λ history ordered. (all_pending_falls history ordered).0 }
