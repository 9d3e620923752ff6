-- What each fault of an opening says.
use Rattle.std.specs.Prelude.{◌≡◌, ℕ, ◌<◌, true, false}
use Rattle.std.specs.Ordering.{nat_cmp}
use Rattle.std.specs.BTreeSet.{BTreeSet, contains}
use Rattle.rm_types.specs.declared.areas.Area.{Area}
use Rattle.rm_types.specs.declared.areas.Area.TheVariants.{Log}
use Rattle.rm_types.specs.declared.faults.Fault.TheVariants as fault
use Rattle.rm_types.specs.declared.faults.StoreFault.{StoreFault}
use Rattle.rm_types.specs.declared.faults.StoreFault.TheVariants as store
use Rattle.rm_outside.specs.Calls.{Facts, HasFailed, LeavesContent}
use Rattle.rm_outside.specs.Images.{Image}
use Rattle.rm_master.specs.declared.faults.MasterFault.{MasterFault}
use Rattle.rm_master.specs.declared.faults.MasterFault.TheVariants as master
use Rattle.rm_master.specs.Slots.{IsUnmade}
use Rattle.rm_restart.specs.declared.replay.ReplayRefused.{ReplayRefused}
use Rattle.rm_restart.specs.declared.replay.ReplayRefused.TheVariants as replay
use Rattle.rm_restart.specs.declared.faults.RestartFault.{RestartFault}
use Rattle.rm_restart.specs.declared.faults.RestartFault.TheVariants as restart
use Rattle.rm_restart.specs.Opening.{NeedsUndoOf, IsDamage}

-- the volume is made, and what is damaged stands there
pub record IsMadeAndDamaged (content : Image) (area : Area) (at : ℕ) : Type 0 where
  pub made : IsUnmade content → ⊥
  pub damage : IsDamage content area at

-- What the fault says of the volume before the opening and after it. But for a fault of the volume, and where memory ran
-- out, all areas were synced.
abbrev pub Explains : Facts → Facts → RestartFault → Type 0
Explains old new restart.NotMade = (new.models_content → IsUnmade old.content) × LeavesContent new
Explains old new (restart.NeedsUndo txn) = NeedsUndoOf new.models_content old.content txn.0 × LeavesContent new
Explains old new (restart.Fault (fault.Damaged area at)) = (new.models_content → IsMadeAndDamaged old.content area at) × LeavesContent new
Explains old new (restart.Fault (fault.Volume area)) = HasFailed old new area
Explains old new restart.NoMemory = Unit {0}

-- the faults of the layers below, as those of an opening
abbrev pub of_master : MasterFault → RestartFault
of_master master.NotMade = restart.NotMade
of_master (master.Fault fault) = restart.Fault fault

abbrev pub of_store : StoreFault → RestartFault
of_store (store.Fault fault) = restart.Fault fault
of_store store.NoMemory = restart.NoMemory

abbrev pub of_replay : ReplayRefused → RestartFault
of_replay (replay.Misfit at) = restart.Fault (fault.Damaged Log at.0)
of_replay replay.NoMemory = restart.NoMemory

-- the least of some ids
pub record IsLeastOf (ids : BTreeSet ℕ) (id : ℕ) : Type 0 where
  pub member : contains nat_cmp ids id ≡ true
  pub least : (other : ℕ) → other < id → contains nat_cmp ids other ≡ false

-- no ids
pub record IsNone (ids : BTreeSet ℕ) : Type 0 where
  pub each : (id : ℕ) → contains nat_cmp ids id ≡ false

-- the fault names the least of these ids
abbrev pub IsUndo : BTreeSet ℕ → RestartFault → Type 0
IsUndo ids (restart.NeedsUndo txn) = IsLeastOf ids txn.0
IsUndo ids other = ⊥
