-- The log that stands in area Log: batches, one after the other, each after a gate byte of 1.
use Rattle.std.specs.Prelude.{◌≡◌, ℕ, ◌+◌, ◌^◌, ◌≤◌, ◌<◌, List, [], ◌∷◌, ◌++◌, length, ◌⊎◌}
use Rattle.std.specs.Int.{to_be_bytes, w32}
use Rattle.std.specs.List.{AllByRecursion}
use Rattle.rm_types.specs.declared.numbers.TheConstants.{MAX_LOG}
use Rattle.rm_outside.specs.Images.{Bytes, Shows}
use Rattle.rm_record.specs.declared.records.LogRecord.{LogRecord}
use Rattle.rm_record.specs.Records.{spelling, spelling_all, IsRecord}
use Rattle.rm_history.specs.declared.TheConstants.{BATCH_HEADER, MAX_BATCH}

-- the records of a batch, the oldest first
abbrev pub Batch : Type 0
Batch = List LogRecord

-- the offset of the gate after these batches, the newest of them first
abbrev pub gate_of : List Batch → ℕ
gate_of [] = 0
gate_of (batch ∷ batches) = gate_of batches + (BATCH_HEADER + length (spelling_all batch))

-- a batch as it stands after its gate: the length of its records in four bytes, and the records
abbrev pub body_of : Batch → List ℕ
body_of batch = to_be_bytes w32 (length (spelling_all batch)) ++ spelling_all batch

-- `len` bytes of records may stand in a batch with that gate
pub record IsInRange (gate len : ℕ) : Type 0 where
  pub some : 0 < len
  pub short : len ≤ MAX_BATCH
  pub in_log : gate + (BATCH_HEADER + len) ≤ MAX_LOG

-- the records may stand in a batch with that gate
pub record IsBatch (gate : ℕ) (batch : Batch) : Type 0 where
  pub records : AllByRecursion IsRecord batch
  pub range : IsInRange gate (length (spelling_all batch))

-- each of these batches may stand after those before it
abbrev pub AreBatches : List Batch → Type 0
AreBatches [] = Unit {0}
AreBatches (batch ∷ batches) = AreBatches batches × IsBatch (gate_of batches) batch

-- these batches stand in the area from its start on, the newest of them first
abbrev pub Stands : Bytes → List Batch → Type 0
Stands area [] = Unit {0}
Stands area (batch ∷ batches) =
    Stands area batches × IsBatch (gate_of batches) batch × (area (gate_of batches) ≡ 1) × Shows area (gate_of batches + 1) (body_of batch)

-- the log of the area: the batches before the first gate that is not 1
pub record HasLog (area : Bytes) (batches : List Batch) : Type 0 where
  pub stands : Stands area batches
  pub closed : area (gate_of batches) ≡ 1 → ⊥

-- No batch stands after that gate. The first damaged place is its length, which is out of range, ...
pub record HasWrongLength (area : Bytes) (gate at : ℕ) : Type 0 where
  pub len : ℕ
  pub fits : len < 2 ^ 32
  pub shown : Shows area (gate + 1) (to_be_bytes w32 len)
  pub wrong : IsInRange gate len → ⊥
  pub place : at ≡ gate + 1

-- ... or the place after the first records, at which no record stands within that length.
pub record HasWrongRecord (area : Bytes) (gate at : ℕ) : Type 0 where
  pub len : ℕ
  pub prefix : Batch
  pub range : IsInRange gate len
  pub records : AllByRecursion IsRecord prefix
  pub within : length (spelling_all prefix) < len
  pub shown : Shows area (gate + 1) (to_be_bytes w32 len ++ spelling_all prefix)
  pub place : at ≡ gate + (BATCH_HEADER + length (spelling_all prefix))
  pub none : (next : LogRecord) → IsRecord next → length (spelling_all prefix) + length (spelling next) ≤ len → Shows area at (spelling next) → ⊥

-- the gate is open, and no batch stands after it
pub record IsWrongAfter (area : Bytes) (gate at : ℕ) : Type 0 where
  pub begun : area gate ≡ 1
  pub wrong : HasWrongLength area gate at ⊎ HasWrongRecord area gate at

-- the area is damaged there first
pub record IsDamagedAt (area : Bytes) (at : ℕ) : Type 0 where
  pub batches : List Batch
  pub stands : Stands area batches
  pub wrong : IsWrongAfter area (gate_of batches) at
