-- Which record has an LSN: in area Log, and in the tail.
use Rattle.std.specs.Prelude.{◌≡◌, ℕ, ◌+◌, ◌-◌, ◌≤◌, List, ◌++◌, length, drop}
use Rattle.rm_outside.specs.Images.{Bytes, Shows}
use Rattle.rm_record.specs.declared.records.LogRecord.{LogRecord}
use Rattle.rm_record.specs.Records.{spelling, IsRecord}
use Rattle.rm_history.specs.declared.TheConstants.{BATCH_HEADER}
use Rattle.rm_wal.specs.Tails.{LogValue}

-- each record that stands at that offset of the area has at most `most` bytes
pub record AreWithin (area : Bytes) (at most : ℕ) : Type 0 where
  pub each : (next : LogRecord) → IsRecord next → Shows area at (spelling next) → length (spelling next) ≤ most

-- no record stands at that offset of the area
pub record HasNoneAt (area : Bytes) (at : ℕ) : Type 0 where
  pub each : (next : LogRecord) → IsRecord next → Shows area at (spelling next) → ⊥

-- the record stands in the tail, at that offset of the log
pub record StandsInTail (log : LogValue) (at : ℕ) (what : LogRecord) : Type 0 where
  pub after : log.batch + BATCH_HEADER ≤ at
  pub rest : List ℕ
  pub cut : drop (at - (log.batch + BATCH_HEADER)) log.tail ≡ spelling what ++ rest

-- no record stands in the tail at that offset of the log
pub record HasNoneInTail (log : LogValue) (at : ℕ) : Type 0 where
  pub each : (next : LogRecord) → IsRecord next → StandsInTail log at next → ⊥
