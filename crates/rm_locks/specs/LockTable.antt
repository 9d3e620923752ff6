-- The row locks: which transactions have a lock on which row id, and in which mode.
use Rattle.std.specs.Prelude.{◌≡◌, ◌≢◌, ℕ, ◌<◌, Bool, true, false, IsTrue, ◌==◌, ◌&&◌, if◌then◌else◌, List, Option, Some, None, is_some, IsSome, unwrap_or}
use Rattle.std.specs.Map.{lookup}
use Rattle.std.specs.BTreeMap.{is_at}
use Rattle.rm_types.specs.declared.modes.Mode.{Mode}
use Rattle.rm_types.specs.declared.modes.Mode.TheVariants.{Shared, Exclusive}
use Rattle.rm_types.specs.declared.numbers.Rid.{Rid}
use Rattle.rm_locks.specs.declared.keys.LockKey.{LockKey}
use Rattle.rm_locks.specs.contracts.keys.LockKeyOrd.TheImpl as order
use Rattle.rm_locks.specs.declared.refusals.LockRefused.{LockRefused}
use Rattle.rm_locks.specs.declared.refusals.LockRefused.TheVariants.{Held, NoMemory}

-- the entries, in order of row ids and transactions; one without a mode is room for a lock
abbrev pub LockTable : Type 0
LockTable = List (LockKey × Option Mode)

-- a transaction's entry for a row id: it has none, or room for a lock alone, or a lock in a mode
abbrev pub entry_in : LockTable → ℕ → Rid → Option (Option Mode)
entry_in table txn rid = lookup (is_at (order.ghosts.cmp (record { rid = rid; txn = record { 0 = txn } }))) table

-- there is room for the transaction's lock on the row id
abbrev pub IsReady : LockTable → ℕ → Rid → Type 0
IsReady table txn rid = IsSome (entry_in table txn rid)

-- the mode of a transaction's lock on a row id, if it has one
abbrev pub mode_in : LockTable → ℕ → Rid → Option Mode
mode_in table txn rid = unwrap_or (entry_in table txn rid) None

-- whether there is a lock, and it is exclusive
abbrev pub is_exclusive : Option Mode → Bool
is_exclusive (Some Exclusive) = true
is_exclusive other = false

-- the transaction has a lock on the row id; it has an exclusive one
abbrev pub Holds : LockTable → ℕ → Rid → Type 0
Holds table txn rid = IsSome (mode_in table txn rid)

abbrev pub HoldsAlone : LockTable → ℕ → Rid → Type 0
HoldsAlone table txn rid = IsTrue (is_exclusive (mode_in table txn rid))

-- where one transaction has an exclusive lock, no other has any
abbrev pub AreCompatible : LockTable → Type 0
AreCompatible table = (txn other : ℕ) (rid : Rid) → other ≢ txn → HoldsAlone table txn rid → Holds table other rid → ⊥

-- whether the lock that one transaction has, if any, is incompatible with another's in this mode
abbrev pub is_incompatible : Option Mode → Mode → Bool
is_incompatible held Shared = is_exclusive held
is_incompatible held Exclusive = is_some held

-- the transaction's lock keeps others from one in this mode
abbrev pub Blocks : LockTable → ℕ → Rid → Mode → Type 0
Blocks table txn rid mode = IsTrue (is_incompatible (mode_in table txn rid) mode)

-- no other transaction blocks the lock
abbrev pub IsFree : LockTable → ℕ → Rid → Mode → Type 0
IsFree table txn rid mode = (other : ℕ) → other ≢ txn → Blocks table other rid mode → ⊥

-- the least of the other transactions that block the lock
pub record IsLeastBlocker (table : LockTable) (txn : ℕ) (rid : Rid) (mode : Mode) (holder : ℕ) : Type 0 where
  pub other : holder ≢ txn
  pub blocks : Blocks table holder rid mode
  pub least : (lower : ℕ) → lower < holder → lower ≢ txn → Blocks table lower rid mode → ⊥

-- why a lock is refused: its least blocker holds it; or memory ran out, and no other transaction blocks it
abbrev pub Refuses : LockTable → ℕ → Rid → Mode → LockRefused → Type 0
Refuses table txn rid mode (Held holder) = IsLeastBlocker table txn rid mode holder.0
Refuses table txn rid mode NoMemory = IsFree table txn rid mode

-- all locks stay as they were
abbrev pub KeepsLocks : LockTable → LockTable → Type 0
KeepsLocks old new = (txn : ℕ) (rid : Rid) → mode_in new txn rid ≡ mode_in old txn rid

-- whether both name the lock of one transaction on one row id
abbrev pub is_same_lock : ℕ → Rid → ℕ → Rid → Bool
is_same_lock txn rid other at = (rid.page == at.page && rid.slot == at.slot) && txn == other

-- all other entries stay as they were
abbrev pub KeepsOthers : LockTable → LockTable → ℕ → Rid → Type 0
KeepsOthers old new txn rid = (other : ℕ) (at : Rid) → is_same_lock txn rid other at ≡ false → entry_in new other at ≡ entry_in old other at

-- the mode of a transaction's lock, if any, after one more grant, in this mode: an exclusive one stays exclusive
abbrev pub raised : Option Mode → Mode → Mode
raised held Shared = unwrap_or held Shared
raised held Exclusive = Exclusive

-- the transaction has the lock besides; all other entries stay
abbrev pub Grants : LockTable → LockTable → ℕ → Rid → Mode → Type 0
Grants old new txn rid mode = (other : ℕ) (at : Rid)
    → entry_in new other at ≡ (if is_same_lock txn rid other at then Some (Some (raised (mode_in old txn rid) mode)) else entry_in old other at)

-- the transaction has no entries; those of the others stay
abbrev pub Releases : LockTable → LockTable → ℕ → Type 0
Releases old new txn = (other : ℕ) (rid : Rid) → entry_in new other rid ≡ (if txn == other then None else entry_in old other rid)
