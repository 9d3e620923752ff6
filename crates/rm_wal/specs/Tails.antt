-- What a log in memory is.
use Rattle.std.specs.Prelude.{ℕ, ◌+◌, List, length}
use Rattle.rm_history.specs.declared.TheConstants.{BATCH_HEADER}

-- the offset of the gate of the batch that is being filled, the bytes of its records, and the limit
pub record LogValue : Type 0 where
  pub batch : ℕ
  pub tail : List ℕ
  pub limit : ℕ

-- the offset that the next record has
abbrev pub end_of : LogValue → ℕ
end_of log = log.batch + (BATCH_HEADER + length log.tail)
