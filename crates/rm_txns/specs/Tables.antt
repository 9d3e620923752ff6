-- The transactions of all sessions.
use Rattle.std.specs.Prelude.{◌≡◌, ◌≢◌, ℕ, ◌+◌, ◌-◌, ◌^◌, ◌<◌, ◌≤◌, List, ◌∷◌, Option, None, Some, length, slice_index_or, sum_by, ◌&&◌, not, if◌then◌else◌}
use Rattle.rm_types.specs.declared.numbers.TheConstants.{MAX_SESSIONS}
use Rattle.std.specs.List.{Contains}
use Rattle.rm_types.specs.declared.places.Place.{Place}
use Rattle.rm_txns.specs.declared.transaction.Txn.{Txn}
use Rattle.rm_txns.specs.declared.transaction.TheConstants.{OWED}

-- the next id, and the transaction of each session, from session 1 on
pub record Table : Type 0 where
  pub next : ℕ
  pub seats : List (Option Txn)

-- the sessions have the numbers from 1
abbrev pub IsSession : ℕ → Type 0
IsSession number = (1 ≤ number) × (number ≤ MAX_SESSIONS)

-- a session's transaction, if it has one
abbrev pub seat_of : List (Option Txn) → ℕ → Option Txn
seat_of seats session = slice_index_or (None ∷ seats) session None

abbrev pub txn_of : Table → ℕ → Option Txn
txn_of table session = seat_of table.seats session

-- the bytes that a session's transaction owes, and those that all owe
abbrev pub owed_of : Option Txn → ℕ
owed_of None = 0
owed_of (Some txn) = txn.owed

abbrev pub owed_by : Table → ℕ
owed_by table = sum_by owed_of table.seats

-- one session has this transaction from now on, or none; all others have what they had
pub record ChangesOnly (old new : Table) (session : ℕ) (txn : Option Txn) : Type 0 where
  pub here : txn_of new session ≡ txn
  pub others : (other : ℕ) → other ≢ session → txn_of new other ≡ txn_of old other
  pub owed : owed_by new + owed_of (txn_of old session) ≡ owed_by old + owed_of txn
  pub next : new.next ≡ old.next

-- the transaction is there, and has this id
abbrev pub HasId : Option Txn → ℕ → Type 0
HasId None id = ⊥
HasId (Some txn) id = txn.id.0 ≡ id

-- the ids are from 1 and below the next, and no two transactions have one
pub record HaveOwnIds (table : Table) : Type 0 where
  pub given : (session id : ℕ) → HasId (txn_of table session) id → (1 ≤ id) × (id < table.next)
  pub apart : (a b id : ℕ) → HasId (txn_of table a) id → HasId (txn_of table b) id → a ≡ b

-- the bytes that a transaction owes beside those that it owes from its begin on
abbrev pub excess_of : Option Txn → ℕ
excess_of None = 0
excess_of (Some txn) = txn.owed - OWED

-- what holds of the table, with the running total of what all owe
pub record Stands (table : Table) (total : ℕ) : Type 0 where
  pub seated : length table.seats ≡ MAX_SESSIONS
  pub range : (1 ≤ table.next) × (table.next ≤ 2 ^ 32)
  pub ids : HaveOwnIds table
  pub total_is : total ≡ owed_by table
  pub bound : sum_by excess_of table.seats ≤ 2 ^ 63

-- the id and the undo place of a session's transaction, if it is a loser: it has made a record, and is not committed
abbrev pub loser_of : Option Txn → Option Place
loser_of None = None
loser_of (Some txn) = if txn.pushed && not txn.committed then Some (record { number = txn.id.0; at = txn.undo.0 }) else None

-- the place is the id and the undo place of a loser
abbrev pub IsLoser : List (Option Txn) → Place → Type 0
IsLoser seats place = (session : ℕ) × (loser_of (seat_of seats session) ≡ Some place)

-- the places are those of the losers, and no others
pub record AreLosers (table : Table) (places : List Place) : Type 0 where
  pub every : (place : Place) → IsLoser table.seats place → Contains places place
  pub only : (place : Place) → Contains places place → IsLoser table.seats place
