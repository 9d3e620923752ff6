-- What calls do to a volume, as relations between the volume before and after. A contract cites the dictionary of its
-- bound, as `OnlyReads V.Volume Area.Log volume.old volume.new`.
use Rattle.std.specs.Prelude.{◌≡◌, ℕ, ◌≤◌, Bool, true, false, List, Result, IfErr}
use Rattle.rm_types.specs.declared.areas.Area.{Area}
use Rattle.rm_types.specs.declared.areas.Area.TheVariants.{Log, Data}
use Rattle.rm_types.specs.declared.faults.Fault.{Fault}
use Rattle.rm_types.specs.declared.faults.Fault.TheVariants as fault
use Rattle.rm_types.specs.declared.faults.StoreFault.{StoreFault}
use Rattle.rm_types.specs.declared.faults.StoreFault.TheVariants as store
use Rattle.rm_outside.specs.declared.volume.Volume.{Ghosts}
use Rattle.rm_outside.specs.Areas.{is_same}
use Rattle.rm_outside.specs.Faults.{Rises}
use Rattle.rm_outside.specs.Images.{Image, KeepsOthers, Shows}
use Rattle.rm_outside.specs.Moments.{AddsNone, ComesBy, Follows, IsDurable, LeavesOnly}

-- ---- a volume at one moment

-- the facts of it that its trait gives, apart from which volume it is
pub record Facts : Type 1 where
  pub content : Image
  pub may_leave : Image → Type 0
  pub moment : ℕ
  pub left_since : ℕ → Image → Type 0
  pub faults : Area → ℕ
  pub data_reads : ℕ
  pub log_reads : ℕ
  pub models_content : Type 0

abbrev pub facts_of : {V : Type 0} → Ghosts V → V → Facts
facts_of g volume = record {
  content = g.content volume;
  may_leave = g.may_leave volume;
  moment = g.moment volume;
  left_since = g.left_since volume;
  faults = g.faults volume;
  data_reads = g.data_reads volume;
  log_reads = g.log_reads volume;
  models_content = g.models_content volume;
}

-- The bytes stand at this offset of the area in a volume, if it models its content to this later moment.
abbrev pub HasBytes : {V : Type 0} → Ghosts V → V → V → Area → ℕ → List ℕ → Type 0
HasBytes g volume later area at bytes = g.models_content later → Shows (g.content volume area) at bytes

-- a crash now leaves the area as it is read
abbrev pub IsSynced : {V : Type 0} → Ghosts V → Area → V → Type 0
IsSynced g area volume = IsDurable area (g.content volume) (g.may_leave volume)

-- a crash now leaves the content and nothing else
abbrev pub LeavesContent : Facts → Type 0
LeavesContent volume = (c : Image) → volume.may_leave c → c ≡ volume.content

abbrev pub IsAllSynced : {V : Type 0} → Ghosts V → V → Type 0
IsAllSynced g volume = LeavesContent (facts_of g volume)

-- ---- from one moment to a later one

-- each image that a crash might have left at a moment between the two has P
abbrev pub AllLeft : Facts → Facts → (Image → Type 0) → Type 0
AllLeft old new P = LeavesOnly old.moment new.moment old.left_since new.left_since P

abbrev pub AtEachMoment : {V : Type 0} → Ghosts V → V → V → (Image → Type 0) → Type 0
AtEachMoment g old new P = AllLeft (facts_of g old) (facts_of g new) P

-- the count stays, unless what it counts is read
abbrev pub StaysUnless : Bool → ℕ → ℕ → Type 0
StaysUnless true before after = Unit {0}
StaysUnless false before after = after ≡ before

-- No count of faults falls, and blocks of Data and bytes of Log are counted only where they are read.
pub record Counts (data_read log_read : Bool) (old new : Facts) : Type 0 where
  pub faults : (area : Area) → old.faults area ≤ new.faults area
  pub blocks : StaysUnless data_read old.data_reads new.data_reads
  pub log_bytes : StaysUnless log_read old.log_reads new.log_reads

-- What a read gives stays, and no image that a crash may leave is added.
pub record Reading (data_read log_read : Bool) (old new : Facts) : Type 0 where
  pub modelled : new.models_content → old.models_content
  pub content : new.content ≡ old.content
  pub crash : AddsNone old.may_leave new.may_leave
  pub time : AllLeft old new old.may_leave
  pub counts : Counts data_read log_read old new

-- What a read gives changes as said, and each image that a crash may leave comes by the step from one of before. Nothing
-- is read.
pub record Writing (change step : Image → Image → Type 0) (old new : Facts) : Type 0 where
  pub modelled : new.models_content → old.models_content
  pub content : change old.content new.content
  pub crash : Follows step old.may_leave new.may_leave
  pub time : AllLeft old new (ComesBy step old.may_leave)
  pub counts : Counts false false old new

-- it is the same volume
abbrev pub IsSame : {V : Type 0} → Ghosts V → V → V → Type 0
IsSame g old new = g.reference new ≡ g.reference old

-- The calls only read, or make durable what was written. Of what was read, only this area may be counted.
abbrev pub OnlyReads : {V : Type 0} → Ghosts V → Area → V → V → Type 0
OnlyReads g area old new = Reading (is_same Data area) (is_same Log area) (facts_of g old) (facts_of g new) × IsSame g old new

-- The calls only make durable what was written.
abbrev pub OnlySyncs : {V : Type 0} → Ghosts V → V → V → Type 0
OnlySyncs g old new = Reading false false (facts_of g old) (facts_of g new) × IsSame g old new

-- The calls write by the step, or make durable what was written.
abbrev pub Writes : {V : Type 0} → Ghosts V → (Image → Image → Type 0) → V → V → Type 0
Writes g step old new = Writing step step (facts_of g old) (facts_of g new) × IsSame g old new

-- The same in one area, where the step may say of images what is known of a content only if it is modelled.
abbrev pub WritesIn : {V : Type 0} → Ghosts V → Area → (Image → Image → Type 0) → V → V → Type 0
WritesIn g area step old new = Writing (KeepsOthers area) step (facts_of g old) (facts_of g new) × IsSame g old new

-- What every call keeps that reads nothing.
abbrev pub ReadsNothing : {V : Type 0} → Ghosts V → V → V → Type 0
ReadsNothing g old new = Counts false false (facts_of g old) (facts_of g new) × IsSame g old new

-- ---- faults

-- the area failed between the two, as its count shows
abbrev pub HasFailed : Facts → Facts → Area → Type 0
HasFailed old new area = Rises (old.faults area) (new.faults area)

-- the fault is that this area failed, as its count shows
abbrev pub IsFaultIn : Area → (Area → ℕ) → (Area → ℕ) → Fault → Type 0
IsFaultIn area before after (fault.Volume other) = (other ≡ area) × Rises (before other) (after other)
IsFaultIn area before after (fault.Damaged other at) = ⊥

-- the fault is that some area failed, as its count shows
abbrev pub IsVolumeFault : (Area → ℕ) → (Area → ℕ) → Fault → Type 0
IsVolumeFault before after (fault.Volume area) = Rises (before area) (after area)
IsVolumeFault before after (fault.Damaged area at) = ⊥

-- if the fault is of a volume, it is that this area failed, as its count shows
abbrev pub IsStoreFaultIn : Area → (Area → ℕ) → (Area → ℕ) → StoreFault → Type 0
IsStoreFaultIn area before after (store.Fault (fault.Volume other)) = (other ≡ area) × Rises (before other) (after other)
IsStoreFaultIn area before after (store.Fault (fault.Damaged other at)) = Unit {0}
IsStoreFaultIn area before after store.NoMemory = Unit {0}

-- an error is a fault of this area
abbrev pub FailsIn : {V T : Type 0} → Ghosts V → Area → V → V → Result T Fault → Type 0
FailsIn g area old new outcome = IfErr outcome (IsFaultIn area (g.faults old) (g.faults new))

-- an error is a fault of some area
abbrev pub Fails : {V T : Type 0} → Ghosts V → V → V → Result T Fault → Type 0
Fails g old new outcome = IfErr outcome (IsVolumeFault (g.faults old) (g.faults new))

-- an error that is a fault of the volume is one of this area
abbrev pub StoreFailsIn : {V T : Type 0} → Ghosts V → Area → V → V → Result T StoreFault → Type 0
StoreFailsIn g area old new outcome = IfErr outcome (IsStoreFaultIn area (g.faults old) (g.faults new))
