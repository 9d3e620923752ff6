-- What a crash may leave of a run.
use Rattle.std.specs.Prelude.{◌≡◌, ℕ, ◌-◌, ◌≤◌, List, [], ◌∷◌, ◌++◌, drop, length}
use Rattle.std.specs.List.{AllByRecursion}
use Rattle.rm_types.specs.declared.formats.Format.{Format}
use Rattle.rm_types.specs.declared.numbers.Rid.{Rid}
use Rattle.rm_types.specs.declared.numbers.TheConstants.{MAX_LOG}
use Rattle.rm_outside.specs.Images.{Image}
use Rattle.rm_model.specs.Pages.{row_at}
use Rattle.rm_master.specs.declared.fields.Fields.{Fields}
use Rattle.rm_history.specs.Logs.{Batch}
use Rattle.rm_history.specs.Acts.{History}
use Rattle.rm_history.specs.Batched.{acts_of_batches}
use Rattle.rm_history.specs.Contents.{page_of}
use Rattle.rm_history.specs.Legal.{IsLegal}
use Rattle.rm_history.specs.Rows.{rows_of_log}
use Rattle.rm_history.specs.Undoing.{Restarted}
use Rattle.rm_history.specs.UndoLaws.{IsRestarted}
use Rattle.rm_core.specs.Below.{Seen}
use Rattle.rm_core.specs.Names.{Event, IsAcknowledged, IsAmong, IsRun, Machine, commits_in, order_of}
use Rattle.rm_core.specs.Orders.{rows_after}
use Rattle.rm_image.specs.ImageLaws.{IsOfTxn}
use Rattle.rm_image.specs.Starts.{Start}
use Rattle.rm_image.specs.Whole.{IsSoundBy}
use Rattle.rm_events.specs.declared.events.Seen.TheVariants as sees

-- The history is legal, and each of its records is of a transaction: no checkpoint is made.
abbrev pub IsKept : Format → History → Type 0
IsKept format history = IsLegal format history × AllByRecursion IsOfTxn history

-- What an opening finds: a sound image with this master, which names no copy, and with a log of this history.
pub record IsFound (start : Start) (fields : Fields) (history : History) (c : Image) : Type 0 where
  pub batches : List Batch
  pub history_is : acts_of_batches batches ≡ history
  pub sound : IsSoundBy IsKept c start fields batches
  pub no_copy : fields.half ≡ 0

-- what the log of a machine's file begins with
abbrev pub start_of : Machine → Start
start_of m = record { format = m.opening.setting.format; pages = m.opening.setting.pages }

-- no event tells of a checkpoint's record
abbrev pub IsOther : Seen → Type 0
IsOther (sees.Append lsn) = ⊥
IsOther seen = Unit {0}

abbrev pub TellsNoCheckpoint : List Event → Type 0
TellsNoCheckpoint [] = Unit {0}
TellsNoCheckpoint (newest ∷ before) = IsOther newest.seen × TellsNoCheckpoint before

-- A run of the machine from what restart made of the history that an opening found.
pub record IsRunFrom (first : History) (m : Machine) : Type 0 where
  pub restarted : Restarted m.opening.setting.format first m.opening.history
  pub run : IsRun m
  pub limit : m.opening.setting.limit ≤ MAX_LOG
  pub no_checkpoint : TellsNoCheckpoint m.trace

-- What a crash leaves of a run with these events: a sound image, whose log has that of the opening, with the rows of the first
-- transactions in the order of their commits, as many as the log has commits past the opening.
pub record IsCrashImage (start : Start) (fields : Fields) (first : History) (trace : List Event) (c : Image) : Type 0 where
  pub more : History
  pub found : IsFound start fields (more ++ first) c
  pub rows : (rid : Rid) → rows_of_log (more ++ first) rid ≡ rows_after (rows_of_log first) trace (commits_in more) rid

-- the first n transactions in the order of their commits
abbrev pub first_of : List Event → ℕ → List ℕ
first_of trace n = drop (length (order_of trace) - n) (order_of trace)

-- It has all that were acknowledged: each is one of those transactions.
pub record HasAcknowledged (start : Start) (fields : Fields) (first : History) (trace : List Event) (c : Image) : Type 0 where
  pub image : IsCrashImage start fields first trace c
  pub acknowledged : (txn : ℕ) → IsAcknowledged trace txn → IsAmong (first_of trace (commits_in image.more)) txn

-- What restart makes of it: the rows are those of these transactions, and each page holds these and nothing else.
pub record IsRecovered (format : Format) (first more : History) (trace : List Event) (new : History) : Type 0 where
  pub restarted : IsRestarted format (more ++ first) new
  pub rows : (rid : Rid) → row_at (page_of new rid.page) rid.slot ≡ rows_after (rows_of_log first) trace (commits_in more) rid
