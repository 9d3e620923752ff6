-- What is read from a batch.
use Rattle.std.specs.Prelude.{◌≡◌, ℕ, ◌+◌, ◌^◌, ◌<◌, List, [], ◌∷◌, ◌++◌, length, drop, Option, Some, None}
use Rattle.std.specs.Int.{to_be_bytes, w32}
use Rattle.std.specs.List.{AllByRecursion}
use Rattle.rm_outside.specs.Images.{Bytes, Shows}
use Rattle.rm_record.specs.declared.records.LogRecord.{LogRecord}
use Rattle.rm_record.specs.declared.records.Logged.{Logged}
use Rattle.rm_record.specs.Records.{spelling, spelling_all, IsRecord}
use Rattle.rm_history.specs.declared.TheConstants.{BATCH_HEADER}
use Rattle.rm_history.specs.Logs.{Batch, gate_of, body_of, IsInRange, IsBatch, AreBatches, Stands}
use Rattle.rm_history.specs.Acts.{acts_of}
use Rattle.rm_history.specs.Batched.{acts_after, acts_of_batches}

-- no record's spelling begins the bytes
pub record BeginsWithNone (bytes : List ℕ) : Type 0 where
  pub each : (next : LogRecord) (rest : List ℕ) → IsRecord next → bytes ≡ spelling next ++ rest → ⊥

-- the bytes begin with a record of that size, which was put after the old ones with that LSN
pub record ReadsRecord (at : ℕ) (bytes : List ℕ) (size : ℕ) (old new : List Logged) : Type 0 where
  pub what : LogRecord
  pub is : IsRecord what
  pub size_is : size ≡ length (spelling what)
  pub cut : bytes ≡ spelling what ++ drop size bytes
  pub added : new ≡ old ++ record { lsn = record { 0 = at }; what = what } ∷ []

-- the bytes are some records and then the rest; the records were put after the old ones, from that LSN on
pub record ReadsSome (base : ℕ) (bytes : List ℕ) (at : ℕ) (rest : List ℕ) (old new : List Logged) : Type 0 where
  pub prefix : Batch
  pub are : AllByRecursion IsRecord prefix
  pub cut : bytes ≡ spelling_all prefix ++ rest
  pub place : at ≡ base + length (spelling_all prefix)
  pub acts_are : acts_of new ≡ acts_after (acts_of old) base prefix

-- the bytes are these records, which were put after the old ones
pub record ReadsAll (base : ℕ) (bytes : List ℕ) (old new : List Logged) : Type 0 where
  pub batch : Batch
  pub are : AllByRecursion IsRecord batch
  pub spelled : bytes ≡ spelling_all batch
  pub acts_are : acts_of new ≡ acts_after (acts_of old) base batch

-- the bytes are some records and then, from that place on, bytes that begin with none
pub record StopsAt (base : ℕ) (bytes : List ℕ) (at : ℕ) : Type 0 where
  pub prefix : Batch
  pub rest : List ℕ
  pub are : AllByRecursion IsRecord prefix
  pub cut : bytes ≡ spelling_all prefix ++ rest
  pub some : 0 < length rest
  pub place : at ≡ base + length (spelling_all prefix)
  pub none : BeginsWithNone rest

-- the bytes from a gate on are an open gate and a length that is out of range
pub record IsOutOfRange (gate : ℕ) (header : List ℕ) (at : ℕ) : Type 0 where
  pub len : ℕ
  pub fits : len < 2 ^ 32
  pub header_is : header ≡ 1 ∷ to_be_bytes w32 len
  pub wrong : IsInRange gate len → ⊥
  pub place : at ≡ gate + 1

-- the gate is open, and the length after it is in range
pub record IsOpen (modelled : Type 0) (area : Bytes) (gate len : ℕ) : Type 0 where
  pub range : IsInRange gate len
  pub shown : modelled → (area gate ≡ 1) × Shows area (gate + 1) (to_be_bytes w32 len)

-- what stands at a gate: it is closed, or it has a length after it
abbrev pub ReadsHeader : Type 0 → Bytes → ℕ → Option ℕ → Type 0
ReadsHeader modelled area gate None = modelled → area gate ≡ 1 → ⊥
ReadsHeader modelled area gate (Some len) = IsOpen modelled area gate len

-- the batch at the gate was read, and the next gate is there
pub record ReadsBatch (modelled : Type 0) (area : Bytes) (gate next : ℕ) (old new : List Logged) : Type 0 where
  pub batch : Batch
  pub is : IsBatch gate batch
  pub shown : modelled → (area gate ≡ 1) × Shows area (gate + 1) (body_of batch)
  pub next_is : next ≡ gate + (BATCH_HEADER + length (spelling_all batch))
  pub acts_are : acts_of new ≡ acts_after (acts_of old) (gate + BATCH_HEADER) batch

-- what was read at a gate: no batch, or one
abbrev pub ReadsGate : Type 0 → Bytes → ℕ → List Logged → List Logged → Option ℕ → Type 0
ReadsGate modelled area gate old new None = (modelled → area gate ≡ 1 → ⊥) × (new ≡ old)
ReadsGate modelled area gate old new (Some next) = ReadsBatch modelled area gate next old new

-- the batches before a gate were read, and their records are these, the oldest first
pub record ReadsBatches (modelled : Type 0) (area : Bytes) (gate : ℕ) (records : List Logged) : Type 0 where
  pub batches : List Batch
  pub are_batches : AreBatches batches
  pub stands : modelled → Stands area batches
  pub gate_is : gate ≡ gate_of batches
  pub history_is : acts_of_batches batches ≡ acts_of records

-- these are all batches: the gate after them is closed
pub record ReadsAllBatches (modelled : Type 0) (area : Bytes) (gate : ℕ) (records : List Logged) : Type 0 where
  pub before : ReadsBatches modelled area gate records
  pub closed : modelled → area gate ≡ 1 → ⊥
