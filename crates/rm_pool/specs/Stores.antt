-- A store: the log on its volume, and the pages and the inventory as the log has them.
use Rattle.std.specs.Prelude.{◌≡◌, ℕ, ◌+◌, ◌≤◌, ◌<◌, Some, ◌∷◌, ◌++◌, length, ◌⊎◌}
use Rattle.rm_types.specs.declared.numbers.TheConstants.{MAX_LOG}
use Rattle.rm_record.specs.declared.records.LogRecord.{LogRecord}
use Rattle.rm_record.specs.Records.{spelling}
use Rattle.rm_history.specs.Acts.{act_at}
use Rattle.rm_wal.specs.declared.log.TheConstants.{LONG_TAIL}
use Rattle.rm_wal.specs.Tails.{end_of}
use Rattle.rm_pool.specs.Journals.{JournalValue, flushed}
use Rattle.rm_pool.specs.Frames.{FramesValue, IsForFixed, CannotTake}

pub record StoreValue (V : Type 0) : Type 0 where
  pub journal : JournalValue V
  pub frames : FramesValue

-- all that was logged was applied
abbrev pub IsCurrent : {V : Type 0} → StoreValue V → Type 0
IsCurrent store = store.frames.applied ≡ store.journal.history

-- the offset that the next record has
abbrev pub next_of : {V : Type 0} → StoreValue V → ℕ
next_of store = end_of store.journal.log

-- the log has room for any record before its next flush
abbrev pub HasShortTail : {V : Type 0} → StoreValue V → Type 0
HasShortTail store = length store.journal.log.tail ≤ LONG_TAIL

-- The store after calls of its volume that changed nothing else.
abbrev pub on_volume : {V : Type 0} → StoreValue V → V → StoreValue V
on_volume store volume = record store { journal = record store.journal { volume = volume } }

-- with another page fixed; with another block of the inventory
abbrev pub with_page : {V : Type 0} → StoreValue V → ℕ → StoreValue V
with_page store page = record store { frames = record store.frames { page = Some page } }

abbrev pub with_block : {V : Type 0} → StoreValue V → ℕ → StoreValue V
with_block store block = record store { frames = record store.frames { block = Some block } }

-- after a record was appended and applied
abbrev pub written : {V : Type 0} → StoreValue V → LogRecord → StoreValue V
written store what = record {
  journal = record store.journal {
    log = record store.journal.log { tail = store.journal.log.tail ++ spelling what };
    history = act_at (next_of store) what ∷ store.journal.history;
  };
  frames = record store.frames { applied = act_at (next_of store) what ∷ store.frames.applied };
}

-- after a flush, which left the volume so
abbrev pub made_durable : {V : Type 0} → StoreValue V → V → StoreValue V
made_durable store volume = record store {
  journal = record store.journal { volume = volume; log = flushed store.journal.log; durable = store.journal.history };
}

-- The record cannot be written: it is not for what is fixed, the file cannot have what it sets, or the log would be too long.
abbrev pub CannotWrite : {V : Type 0} → StoreValue V → LogRecord → Type 0
CannotWrite store what =
    ((IsForFixed store.frames what → ⊥) ⊎ CannotTake store.frames what) ⊎ (MAX_LOG < next_of store + length (spelling what))

-- What stays where a call fails: the volume as it was opened, what was logged then and since and how much of that is durable, and
-- the file's size.
pub record IsStill {V : Type 0} (old new : StoreValue V) : Type 0 where
  pub opened : new.journal.opened ≡ old.journal.opened
  pub first : new.journal.first ≡ old.journal.first
  pub history : new.journal.history ≡ old.journal.history
  pub durable : new.journal.durable ≡ old.journal.durable
  pub size : new.frames.size ≡ old.frames.size
