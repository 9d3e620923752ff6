-- What each fault of a restart says.
use Rattle.rm_types.specs.declared.areas.Area.{Area}
use Rattle.rm_types.specs.declared.areas.Area.TheVariants.{Log}
use Rattle.rm_types.specs.declared.faults.Fault.TheVariants as fault
use Rattle.rm_types.specs.declared.faults.StoreFault.{StoreFault}
use Rattle.rm_types.specs.declared.faults.StoreFault.TheVariants as store
use Rattle.rm_types.specs.declared.numbers.Lsn.{Lsn}
use Rattle.rm_outside.specs.Calls.{Facts, HasFailed}
use Rattle.rm_outside.specs.Images.{Image}
use Rattle.std.specs.Prelude.{ℕ}
use Rattle.rm_master.specs.declared.faults.MasterFault.{MasterFault}
use Rattle.rm_master.specs.declared.faults.MasterFault.TheVariants as master
use Rattle.rm_master.specs.Slots.{IsUnmade}
use Rattle.rm_recovery.specs.declared.redo.RedoRefused.{RedoRefused}
use Rattle.rm_recovery.specs.declared.redo.RedoRefused.TheVariants as redo
use Rattle.rm_recovery.specs.declared.faults.RestartFault.{RestartFault}
use Rattle.rm_recovery.specs.declared.faults.RestartFault.TheVariants as restart
use Rattle.rm_recovery.specs.Opening.{IsDamage}

-- the volume is made, and what is damaged stands there
pub record IsMadeAndDamaged (content : Image) (area : Area) (at : ℕ) : Type 0 where
  pub made : IsUnmade content → ⊥
  pub damage : IsDamage content area at

-- What the fault says of the volume before the restart and after it.
abbrev pub Explains : Facts → Facts → RestartFault → Type 0
Explains old new restart.NotMade = new.models_content → IsUnmade old.content
Explains old new (restart.Fault (fault.Damaged area at)) = new.models_content → IsMadeAndDamaged old.content area at
Explains old new (restart.Fault (fault.Volume area)) = HasFailed old new area
Explains old new restart.NoMemory = Unit {0}

-- the faults of the layers below, as those of a restart
abbrev pub of_master : MasterFault → RestartFault
of_master master.NotMade = restart.NotMade
of_master (master.Fault fault) = restart.Fault fault

abbrev pub of_store : StoreFault → RestartFault
of_store (store.Fault fault) = restart.Fault fault
of_store store.NoMemory = restart.NoMemory

abbrev pub of_redo : RedoRefused → RestartFault
of_redo (redo.Misfit at) = restart.Fault (fault.Damaged Log at.0)
of_redo redo.NoMemory = restart.NoMemory

-- P of the LSN of the record that did not fit, if that is the refusal
abbrev pub IfMisfit : RedoRefused → (Lsn → Type 0) → Type 0
IfMisfit (redo.Misfit at) P = P at
IfMisfit redo.NoMemory P = Unit {0}
