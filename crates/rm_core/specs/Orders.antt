-- The operations of each transaction, and the transactions in the order of their commits, as a trace tells them.
use Rattle.std.specs.Prelude.{◌≡◌, ℕ, ◌-◌, ◌+◌, ◌==◌, if◌then◌else◌, List, [], ◌∷◌, length, drop, map, Option, Some, None, ◌⊎◌}
use Rattle.rm_core.specs.Below.{Rows, History, changes}
use Rattle.rm_core.specs.Below.{undoes, enters, commits, ends, marks, Seen}
use Rattle.rm_core.specs.Events.{Event}
use Rattle.rm_core.specs.Object.{rows_through, AllAllowed}
use Rattle.rm_core.specs.Outcomes.{Outcome, committed}
use Rattle.rm_events.specs.declared.events.Seen.TheVariants as sees

-- one more, where there is one
abbrev pub onto : {A : Type 0} → Option A → List A → List A
onto None items = items
onto (Some item) items = item ∷ items

-- a transaction's finished operations, the newest first
abbrev pub ops_of : List Event → ℕ → List Outcome
ops_of [] txn = []
ops_of (newest ∷ before) txn = if newest.txn == txn then onto newest.done (ops_of before txn) else ops_of before txn

-- the transactions with a commit event, the newest first
abbrev pub ordered_with : Seen → ℕ → List ℕ → List ℕ
ordered_with (sees.Commit lsn) txn order = txn ∷ order
ordered_with seen txn order = order

abbrev pub order_of : List Event → List ℕ
order_of [] = []
order_of (newest ∷ before) = ordered_with newest.seen newest.txn (order_of before)

-- the operations of the first n of them
abbrev pub first_ops : List Event → ℕ → List (List Outcome)
first_ops trace n = map (ops_of trace) (drop (length (order_of trace) - n) (order_of trace))

-- the rows that these leave, one transaction after the other
abbrev pub rows_after : Rows → List Event → ℕ → Rows
rows_after rows trace n = rows_through rows (first_ops trace n)

-- the committed transactions behave as run one after the other, in the order of their commits
abbrev pub AreSerial : ℕ → Rows → List Event → Type 0
AreSerial pages rows trace = AllAllowed pages rows (map (ops_of trace) (order_of trace))

abbrev pub IsAmong : List ℕ → ℕ → Type 0
IsAmong [] txn = ⊥
IsAmong (first ∷ order) txn = (first ≡ txn) ⊎ IsAmong order txn

-- the transaction's commit was acknowledged
abbrev pub IsAcknowledged : List Event → ℕ → Type 0
IsAcknowledged [] txn = ⊥
IsAcknowledged (newest ∷ before) txn = ((newest.txn ≡ txn) × (newest.done ≡ Some committed)) ⊎ IsAcknowledged before txn

-- how many commits these records hold
abbrev pub commits_in : History → ℕ
commits_in [] = 0
commits_in (changes c ∷ before) = commits_in before
commits_in (undoes u ∷ before) = commits_in before
commits_in (enters e ∷ before) = commits_in before
commits_in (commits f ∷ before) = 1 + commits_in before
commits_in (ends f ∷ before) = commits_in before
commits_in (marks m ∷ before) = commits_in before
