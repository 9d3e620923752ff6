-- The machine's grants, and the entries that stand for them.
use Rattle.std.specs.Prelude.{◌≡◌, ℕ, ◌≤◌, ◌<◌, ◌↔◌, List}
use Rattle.rm_types.specs.declared.modes.Mode.{Mode}
use Rattle.rm_core.specs.Below.{Rid, MAX_SLOT}
use Rattle.rm_core.specs.Names.{HasGrant, HoldsAlone, Blocks, Grant}
use Rattle.rm_locks.specs.LockTable.{LockTable, Holds, HoldsAlone as IsExclusive}
use Rattle.rm_ops.specs.Views.{is_alone}

-- the grants; the entries, which say for which locks there is room
pub record Granted : Type 0 where
  pub grants : List Grant
  pub entries : LockTable

-- another transaction's grants refuse the lock; no other's do
abbrev pub IsRefused : List Grant → ℕ → Rid → Mode → Type 0
IsRefused grants txn rid mode = (other : ℕ) × (other ≡ txn → ⊥) × Blocks grants other rid (is_alone mode)

abbrev pub IsFree : List Grant → ℕ → Rid → Mode → Type 0
IsFree grants txn rid mode = (other : ℕ) → (other ≡ txn → ⊥) → Blocks grants other rid (is_alone mode) → ⊥

-- the least of the other transactions whose grants refuse it
pub record IsLeastHolder (grants : List Grant) (txn : ℕ) (rid : Rid) (mode : Mode) (holder : ℕ) : Type 0 where
  pub other : holder ≡ txn → ⊥
  pub blocks : Blocks grants holder rid (is_alone mode)
  pub least : (lower : ℕ) → lower < holder → (lower ≡ txn → ⊥) → Blocks grants lower rid (is_alone mode) → ⊥

-- the entries are those of these grants, each of a slot that a page may have
pub record Stands (entries : LockTable) (grants : List Grant) : Type 0 where
  pub held : (txn : ℕ) (rid : Rid) → Holds entries txn rid ↔ HasGrant grants txn rid
  pub alone : (txn : ℕ) (rid : Rid) → IsExclusive entries txn rid ↔ HoldsAlone grants txn rid
  pub placed : (txn : ℕ) (rid : Rid) → HasGrant grants txn rid → rid.slot ≤ MAX_SLOT
