-- What each error of a call on a volume's master says.
use Rattle.std.specs.Prelude.{◌≡◌, ℕ}
use Rattle.rm_types.specs.declared.areas.Area.TheVariants.{Master}
use Rattle.rm_types.specs.declared.faults.Fault.{Fault}
use Rattle.rm_types.specs.declared.faults.Fault.TheVariants as fault
use Rattle.rm_outside.specs.declared.volume.Volume.{Ghosts}
use Rattle.rm_outside.specs.Calls.{IsAllSynced, IsVolumeFault, OnlyReads}
use Rattle.rm_outside.specs.Faults.{Rises}
use Rattle.rm_master.specs.declared.faults.MasterFault.{MasterFault}
use Rattle.rm_master.specs.declared.faults.MasterFault.TheVariants as read
use Rattle.rm_master.specs.declared.faults.CreateFault.{CreateFault}
use Rattle.rm_master.specs.declared.faults.CreateFault.TheVariants as create
use Rattle.rm_master.specs.Slots.{slot_at, HasNoFields, IsDamagedAt, IsMade, IsUnmade}

-- of a read of the slot
abbrev pub ExplainsSlot : {V : Type 0} → Ghosts V → V → V → ℕ → Fault → Type 0
ExplainsSlot g old new slot (fault.Volume area) = (area ≡ Master) × Rises (g.faults old area) (g.faults new area)
ExplainsSlot g old new slot (fault.Damaged area at) =
    (area ≡ Master) × (at ≡ slot_at slot) × (g.models_content new → HasNoFields (g.content old Master) at)

-- of a read of the master
abbrev pub ExplainsRead : {V : Type 0} → Ghosts V → V → V → MasterFault → Type 0
ExplainsRead g old new read.NotMade = g.models_content new → IsUnmade (g.content old)
ExplainsRead g old new (read.Fault (fault.Volume area)) = (area ≡ Master) × Rises (g.faults old area) (g.faults new area)
ExplainsRead g old new (read.Fault (fault.Damaged area at)) =
    (area ≡ Master) × (g.models_content new → IsDamagedAt (g.content old Master) at)

-- of making a volume: one that is made already was only synced and read, and all of it was synced
abbrev pub ExplainsCreate : {V : Type 0} → Ghosts V → V → V → CreateFault → Type 0
ExplainsCreate g old new create.AlreadyMade =
    (g.models_content new → IsMade (g.content old)) × IsAllSynced g new × OnlyReads g Master old new
ExplainsCreate g old new (create.Fault fault) = IsVolumeFault (g.faults old) (g.faults new) fault
