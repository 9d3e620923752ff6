-- How far a restart has come, and where it finds that the log is not one that it can finish.
use Rattle.std.specs.Prelude.{◌≡◌, ℕ, ◌+◌, ◌<◌, ◌≤◌, None, List, [], ◌∷◌, length, ◌⊎◌}
use Rattle.rm_types.specs.declared.formats.Format.{Format}
use Rattle.rm_types.specs.declared.numbers.TheConstants.{MAX_LOG}
use Rattle.rm_record.specs.declared.records.LogRecord.{LogRecord}
use Rattle.rm_record.specs.Records.{spelling}
use Rattle.rm_history.specs.Acts.{Change, History}
use Rattle.rm_history.specs.Batched.{AreBelow}
use Rattle.rm_history.specs.Contents.{entry_of}
use Rattle.rm_history.specs.Legal.{IsLegal}
use Rattle.rm_history.specs.Losers.{losers_of}
use Rattle.rm_history.specs.Pending.{all_pending}
use Rattle.rm_history.specs.Sizes.{IsNext, end_of}
use Rattle.rm_history.specs.UndoBytes.{undo_bytes, compensate_record, end_record, inventory_record}
use Rattle.rm_history.specs.Undoing.{category_after, entry_for, undo_for, Restarted}
use Rattle.rm_pool.specs.Frames.{FramesValue, CannotTake}
use Rattle.rm_pool.specs.Journals.{Begins}

-- A restart of a file of so many pages has come from one history to another: whatever finishes the restart of this one
-- finishes that of the first. It takes no more of the log than was kept for it, and stays in the file.
pub record IsRestarting (format : Format) (pages : ℕ) (before now : History) : Type 0 where
  pub finishes : (new : History) → Restarted format now new → Restarted format before new
  pub room : IsLegal format before → end_of now + undo_bytes format now ≤ end_of before + undo_bytes format before
  pub below : AreBelow pages before → AreBelow pages now

-- some restart of the history begins with these records
pub record BeginsRestart (format : Format) (before now : History) : Type 0 where
  pub new : History
  pub restarted : Restarted format before new
  pub begins : Begins now new

-- a file of so many pages with all that the history says
abbrev pub frames_of : ℕ → History → FramesValue
frames_of pages history = record { applied = history; size = pages; page = None; block = None }

-- The record cannot come now: the file cannot have what it does, or the log would be too long.
abbrev pub HasNoPlace : ℕ → History → LogRecord → Type 0
HasNoPlace pages history what =
    CannotTake (frames_of pages history) what ⊎ ((next : ℕ) × IsNext history next × (MAX_LOG < next + length (spelling what)))

-- the pending record below the change is not below it, or its page is not of the file
abbrev pub IsOutside : ℕ → Change → Type 0
IsOutside pages c = (c.lsn ≤ c.under) ⊎ (pages ≤ c.rid.page)

-- The newest pending change, which has this LSN, cannot be undone: it is no change of such a file, the right entry of its page
-- cannot be entered, or, where the entry is right, the change cannot be taken back.
pub record CannotUndoAt (format : Format) (pages : ℕ) (now : History) (at : ℕ) : Type 0 where
  pub last : Change
  pub rest : List Change
  pub pending : all_pending now ≡ last ∷ rest
  pub place : at ≡ last.lsn
  pub why : IsOutside pages last
      ⊎ (HasNoPlace pages now (inventory_record (entry_for format 0 now last))
      ⊎ ((entry_of now last.rid.page ≡ category_after format now last) × HasNoPlace pages now (compensate_record (undo_for 0 last))))

-- Nothing is pending, and the loser that is next cannot end: the log has no room for its record, which were to stand here.
pub record CannotEndAt (now : History) (at : ℕ) : Type 0 where
  pub txn : ℕ
  pub rest : List ℕ
  pub none : all_pending now ≡ []
  pub losers : losers_of now ≡ txn ∷ rest
  pub next : IsNext now at
  pub full : MAX_LOG < at + length (spelling (end_record txn))

-- A restart of the history comes to where it cannot go on, and names that place.
pub record IsUndoDamageAt (format : Format) (pages : ℕ) (before : History) (at : ℕ) : Type 0 where
  pub now : History
  pub restarting : IsRestarting format pages before now
  pub stops : CannotUndoAt format pages now at ⊎ CannotEndAt now at
