-- What holds of each crash, in a run, in a restart, and in a run after a restart after a crash.
use Rattle.std.specs.Prelude.{◌≡◌, ℕ, ◌^◌, ◌<◌, ◌≤◌, Bool, List, [], ◌++◌}
use Rattle.rm_types.specs.declared.formats.Format.TheVariants.{One}
use Rattle.rm_types.specs.declared.areas.Area.TheVariants.{Master, Log}
use Rattle.rm_types.specs.declared.numbers.TheConstants.{MAX_LOG}
use Rattle.rm_outside.specs.Images.{Image, KeepsOthers}
use Rattle.rm_master.specs.declared.fields.Fields.{Fields}
use Rattle.rm_master.specs.Fields.{fresh_fields}
use Rattle.rm_master.specs.Fresh.{IsFresh}
use Rattle.rm_master.specs.Slots.{HasFields}
use Rattle.rm_history.specs.Logs.{Batch, AreBatches, HasLog}
use Rattle.rm_history.specs.Acts.{History}
use Rattle.rm_history.specs.Batched.{acts_of_batches}
use Rattle.rm_history.specs.Transactions.{IsFinished, greatest_txn}
use Rattle.rm_history.specs.Undoing.{Restarted}
use Rattle.rm_core.specs.Below.{Actor}
use Rattle.rm_core.specs.Names.{Event, IsAcknowledged, IsOpening, Machine, Move, started}
use Rattle.rm_play.specs.Words.{ByActors, Progress, StopsBy}
use Rattle.rm_pool.specs.Journals.{Begins, IsBetween}
use Rattle.rm_image.specs.Starts.{Start}
use Rattle.rm_image.specs.Whole.{IsSoundWith}
use Rattle.rm_crash.specs.Crashes.{IsFound, TellsNoCheckpoint, start_of, IsRunFrom, IsCrashImage, HasAcknowledged, IsRecovered}

-- A volume that was just made is found with an empty log, with which the machine opens.
pub record FreshIsFound : Type 0 where
  pub found : (pages : ℕ) (c : Image) → IsFresh pages c → IsFound (record { format = One; pages = pages }) (fresh_fields pages) [] c
  pub opens : (pages sessions : ℕ) → IsRunFrom [] (started (record {
    setting = record { format = One; pages = pages; limit = MAX_LOG };
    history = [];
    sessions = sessions;
    next = 1;
  }))

-- What is found is what the image is read as.
abbrev pub FoundIsRead : Type 0
FoundIsRead = (start : Start) (fields others : Fields) (history : History) (c : Image) (batches : List Batch) → IsFound start fields history c
    → HasFields (c Master) others → HasLog (c Log) batches → (fields ≡ others) × (history ≡ acts_of_batches batches)

-- What is found is sound, and its master names no checkpoint.
abbrev pub FoundIsOfLog : Type 0
FoundIsOfLog = (start : Start) (fields : Fields) (history : History) (c : Image) (found : IsFound start fields history c)
    → IsSoundWith c start fields found.batches × (fields.checkpoint ≡ 0)

-- The machine opens with what restart made of a log that was found, with an id above all.
abbrev pub RestartedLogsOpen : Type 0
RestartedLogsOpen = (start : Start) (fields : Fields) (first : History) (c : Image) (batches : List Batch) (sessions next : ℕ)
    → IsFound start fields first c → AreBatches batches → Restarted start.format first (acts_of_batches batches)
    → greatest_txn first < next → next ≤ 2 ^ 32
    → IsOpening (record { setting = record { format = start.format; pages = start.pages; limit = MAX_LOG }; history = acts_of_batches batches; sessions = sessions; next = next })

-- Each image that a restart may leave, at any moment, is sound, with the rows that were found.
abbrev pub RestartImagesAreFound : Type 0
RestartImagesAreFound = (start : Start) (fields : Fields) (first history new : History) (d c : Image) → IsFound start fields first d
    → Restarted start.format first new → Begins history new → KeepsOthers Log d c → IsBetween first history c → IsCrashImage start fields first [] c

-- So is each that a run or the restart before it may leave, with the rows of the run's first transactions.
abbrev pub CrashImagesAreFound : Type 0
CrashImagesAreFound = (fields : Fields) (first : History) (m : Machine) (d c : Image) → IsFound (start_of m) fields first d → IsRunFrom first m
    → KeepsOthers Log d c → IsBetween first m.state.history c → IsCrashImage (start_of m) fields first m.trace c

-- Where each acknowledged transaction is finished in what is durable, each image that has all of that has these transactions.
abbrev pub AcknowledgedStay : Type 0
AcknowledgedStay = (fields : Fields) (first durable : History) (m : Machine) (d c : Image) → IsFound (start_of m) fields first d → IsRunFrom first m
    → KeepsOthers Log d c → Begins first durable → IsBetween durable m.state.history c
    → ((txn : ℕ) → IsAcknowledged m.trace txn → IsFinished durable txn) → HasAcknowledged (start_of m) fields first m.trace c

-- Restart of such an image leaves just the rows of these transactions.
abbrev pub RestartsRecover : Type 0
RestartsRecover = (start : Start) (fields : Fields) (first new : History) (trace : List Event) (c : Image) (image : IsCrashImage start fields first trace c)
    → Restarted start.format (image.more ++ first) new → IsRecovered start.format first image.more trace new

-- The run of a script makes no checkpoint.
pub record ScriptsMakeNoCheckpoint : Type 0 where
  pub goes : (closes : Bool) (old new : Progress) (actors : List Actor) → ByActors closes old actors new
      → TellsNoCheckpoint old.machine.trace → TellsNoCheckpoint new.machine.trace
  pub stops : (old new : Progress) (actors : List Actor) (move : Move) → StopsBy old actors move new
      → TellsNoCheckpoint old.machine.trace → TellsNoCheckpoint new.machine.trace
