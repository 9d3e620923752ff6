-- What is read when a log is attached.
use Rattle.std.specs.Prelude.{◌≡◌, ℕ, List, []}
use Rattle.rm_outside.specs.Images.{Bytes}
use Rattle.rm_record.specs.declared.records.Logged.{Logged}
use Rattle.rm_history.specs.Logs.{Batch, gate_of, AreBatches, HasLog}
use Rattle.rm_history.specs.Acts.{acts_of}
use Rattle.rm_history.specs.Batched.{acts_of_batches}
use Rattle.rm_wal.specs.Tails.{LogValue}

-- The log in memory comes after the batches of the area, if its content is modelled, and the records are
-- those of the batches, the oldest first.
pub record Attaches (modelled : Type 0) (area : Bytes) (limit : ℕ) (log : LogValue) (records : List Logged) : Type 0 where
  pub batches : List Batch
  pub are_batches : AreBatches batches
  pub has_log : modelled → HasLog area batches
  pub log_is : log ≡ record { batch = gate_of batches; tail = []; limit = limit }
  pub history_is : acts_of_batches batches ≡ acts_of records
