-- The state of the machine: the history, the row locks, and for each session its transaction and its stage.
use Rattle.std.specs.Prelude.{◌≡◌, ℕ, ◌==◌, if◌then◌else◌, Bool, List, [], ◌∷◌, slice_index_or, ◌⊎◌}
use Rattle.rm_core.specs.Below.{Rid, Slot, History}
use Rattle.rm_core.specs.Outcomes.{Outcome}

-- a savepoint: its number, and what it stands for
pub record Savepoint (A : Type 0) : Type 0 where
  pub number : ℕ
  pub value : A

-- the savepoints, the newest first, without those of a number; from the newest one of that number on
abbrev pub dropped : {A : Type 0} → List (Savepoint A) → ℕ → List (Savepoint A)
dropped [] number = []
dropped (first ∷ points) number = if first.number == number then dropped points number else first ∷ dropped points number

abbrev pub upto : {A : Type 0} → List (Savepoint A) → ℕ → List (Savepoint A)
upto [] number = []
upto (first ∷ points) number = if first.number == number then first ∷ points else upto points number

abbrev pub HasNumber : {A : Type 0} → List (Savepoint A) → ℕ → Type 0
HasNumber [] number = ⊥
HasNumber (first ∷ points) number = (first.number ≡ number) ⊎ HasNumber points number

-- what the newest one of a number stands for
abbrev pub value_at : {A : Type 0} → A → List (Savepoint A) → ℕ → A
value_at none [] number = none
value_at none (first ∷ points) number = if first.number == number then first.value else value_at none points number

-- where a rollback goes: all is undone, with that outcome; back to the savepoint with a number, and with its LSN
pub data Aim : Type 0 where
  undoes_all : Outcome → Aim
  returns : ℕ → ℕ → Aim

abbrev pub target_of : Aim → ℕ
target_of (undoes_all outcome) = 0
target_of (returns number lsn) = lsn

-- what a session's next turn is
pub data Stage : Type 0 where
  idle : Stage
  -- an insert of a row: scans from a page on; wants the page's latch; tries the page
  seeks : List ℕ → ℕ → Stage
  wants : List ℕ → ℕ → Stage
  tries : List ℕ → ℕ → Stage
  -- a read: wants the page's latch; fetches the row
  reads : Rid → Stage
  fetches : Rid → Stage
  -- an update or delete, by what the slot is to hold: wants the page's latch; changes the slot
  alters : Rid → Slot → Stage
  sets : Rid → Slot → Stage
  -- the change is logged, with that outcome; the page's entry is looked at
  settles : Outcome → ℕ → Stage
  -- the commit is logged; it is durable
  forces : Stage
  finishes : Stage
  -- a rollback: between two records; with the page of the next one latched; with that page's entry as it will be
  rolls : Aim → Stage
  prepares : Aim → ℕ → Stage
  compensates : Aim → ℕ → Stage

-- a session: its transaction, 0 for none, its savepoints, the newest first, each with the LSN of the transaction's last pending change
-- when it was set, and its stage
pub record Seat : Type 0 where
  pub txn : ℕ
  pub saves : List (Savepoint ℕ)
  pub stage : Stage

abbrev pub empty_seat : Seat
empty_seat = record { txn = 0; saves = []; stage = idle }

-- a row lock: exclusive where it is alone
pub record Grant : Type 0 where
  pub txn : ℕ
  pub rid : Rid
  pub alone : Bool

pub record State : Type 0 where
  pub history : History
  pub grants : List Grant
  pub seats : List Seat
  -- the id of the next transaction
  pub next : ℕ

-- a session, by its place in the list
abbrev pub seat_at : List Seat → ℕ → Seat
seat_at seats session = slice_index_or seats session empty_seat
