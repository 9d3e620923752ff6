-- A volume and the log on it: what was logged, how much of it is durable, and what a crash might have left of it.
use Rattle.std.specs.Prelude.{◌≡◌, ℕ, ◌+◌, Bool, true, false, IsTrue, List, [], ◌∷◌, ◌++◌, length, ◌⊎◌}
use Rattle.rm_types.specs.declared.areas.Area.TheVariants.{Log}
use Rattle.rm_outside.specs.declared.volume.Volume.{Ghosts}
use Rattle.rm_outside.specs.Images.{Image, KeepsOthers}
use Rattle.rm_outside.specs.Moments.{ComesBy, Follows, IsDurable}
use Rattle.rm_outside.specs.Calls.{AllLeft, Counts, Facts, facts_of, IsSame}
use Rattle.rm_record.specs.declared.records.LogRecord.{LogRecord}
use Rattle.rm_history.specs.declared.TheConstants.{BATCH_HEADER}
use Rattle.rm_history.specs.Logs.{Batch, AreBatches, HasLog}
use Rattle.rm_history.specs.Acts.{Act, History, act_at, lsn_of}
use Rattle.rm_history.specs.Batched.{acts_after, acts_of_batches}
use Rattle.rm_history.specs.Sizes.{IsNext}
use Rattle.rm_wal.specs.Flushing.{Tails}
use Rattle.rm_wal.specs.Tails.{LogValue, end_of}

-- The volume now and at the opening; the log in memory; what the records of the log do, those of its tail among them; those
-- that were there at the opening; how much is durable; and whether that is known, since no flush has failed.
pub record JournalValue (V : Type 0) : Type 0 where
  pub volume : V
  pub opened : V
  pub log : LogValue
  pub history : History
  pub first : History
  pub durable : History
  pub is_known : Bool

-- of this, what no memory holds
pub record PastValue : Type 0 where
  pub history : History
  pub first : History
  pub durable : History
  pub is_known : Bool

-- all of it
abbrev pub view_of : {V : Type 0} → (volume opened : V) → LogValue → PastValue → JournalValue V
view_of volume opened log past =
    record { volume = volume; opened = opened; log = log; history = past.history; first = past.first; durable = past.durable; is_known = past.is_known }

-- the log of the image has a history with which this one began
pub record HasFront (history : History) (c : Image) : Type 0 where
  pub batches : List Batch
  pub has : HasLog (c Log) batches
  pub newer : History
  pub is : history ≡ newer ++ acts_of_batches batches

-- and all that is durable is of that history
pub record IsBetween (durable history : History) (c : Image) : Type 0 where
  pub front : HasFront history c
  pub more : History
  pub kept : acts_of_batches front.batches ≡ more ++ durable

-- an image of the opening with another log, which has a history with which this one began, with all that was there at the
-- opening
pub record IsLeft (opened : Image → Type 0) (first history : History) (c : Image) : Type 0 where
  pub others : ComesBy (KeepsOthers Log) opened c
  pub between : IsBetween first history c

-- What was done since the opening: area Log alone was written and read, and each image that a crash might have left at any
-- moment has the history as far as it had come.
pub record Since (opened now : Facts) (first history : History) : Type 0 where
  pub modelled : now.models_content → opened.models_content
  pub content : KeepsOthers Log opened.content now.content
  pub crash : Follows (KeepsOthers Log) opened.may_leave now.may_leave
  pub time : AllLeft opened now (IsLeft opened.may_leave first history)
  pub counts : Counts false true opened now

-- What is known while no flush has failed: the durable history is that of the batches of area Log, and the records of the
-- tail are what was logged after it.
pub record Known (now : Facts) (log : LogValue) (history durable : History) : Type 0 where
  pub batches : List Batch
  pub tail : Batch
  pub are_batches : AreBatches batches
  pub tails : Tails log.batch log.tail now.may_leave batches tail
  pub durable_is : acts_of_batches batches ≡ durable
  pub history_is : acts_after durable (log.batch + BATCH_HEADER) tail ≡ history
  pub synced : IsDurable Log now.content now.may_leave

-- one history began with another
abbrev pub Begins : History → History → Type 0
Begins first history = (newer : History) × (history ≡ newer ++ first)

-- How a journal stands to its volume, as it was opened and as it is now: each image that a crash may leave now has all that is
-- durable, also after a flush that failed.
pub record Standing (opened now : Facts) (log : LogValue) (first history durable : History) (is_known : Bool) : Type 0 where
  pub since : Since opened now first history
  pub grown : Begins first durable
  pub left : (c : Image) → now.may_leave c → IsBetween durable history c
  pub known : IsTrue is_known → Known now log history durable

abbrev pub Stands : {V : Type 0} → Ghosts V → JournalValue V → Type 0
Stands g it = Standing (facts_of g it.opened) (facts_of g it.volume) it.log it.first it.history it.durable it.is_known × IsSame g it.opened it.volume

-- the gate after a flush of this tail; none is written after an empty one
abbrev pub gate_after : ℕ → List ℕ → ℕ
gate_after gate [] = gate
gate_after gate (byte ∷ rest) = gate + (BATCH_HEADER + length (byte ∷ rest))

-- the log once its tail is durable
abbrev pub flushed : LogValue → LogValue
flushed log = record { batch = gate_after log.batch log.tail; tail = []; limit = log.limit }

-- the log ends where the next record of its history may stand
abbrev pub EndsNext : {V : Type 0} → JournalValue V → Type 0
EndsNext it = IsTrue it.is_known → IsNext it.history (end_of it.log)

-- ---- looking a record up

-- a record of the history does this
abbrev pub IsIn : Act → History → Type 0
IsIn act [] = ⊥
IsIn act (newest ∷ before) = (act ≡ newest) ⊎ IsIn act before

-- it is the record of the history that has this LSN, if one has it
abbrev pub IsRecordAt : History → ℕ → LogRecord → Type 0
IsRecordAt history lsn found = (act : Act) → IsIn act history → lsn_of act ≡ lsn → act_at lsn found ≡ act

-- no record of the history has this LSN
abbrev pub HasNoRecordAt : History → ℕ → Type 0
HasNoRecordAt history lsn = (act : Act) → IsIn act history → lsn_of act ≡ lsn → ⊥
