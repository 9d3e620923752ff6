-- The history of the batches of a log, and the batch of each record.
use Rattle.std.specs.Prelude.{◌≡◌, ℕ, ◌+◌, ◌<◌, nat_lt, if◌then◌else◌, List, [], ◌∷◌, length, ◌⊎◌}
use Rattle.rm_record.specs.declared.records.LogRecord.{LogRecord}
use Rattle.rm_record.specs.Records.{spelling}
use Rattle.rm_history.specs.declared.TheConstants.{BATCH_HEADER}
use Rattle.rm_history.specs.Logs.{Batch, gate_of}
use Rattle.rm_history.specs.Acts.{Act, History, changes, undoes, enters, commits, ends, marks, act_at}

-- the history with these records after it, one after the other from this offset on
abbrev pub acts_after : History → ℕ → List LogRecord → History
acts_after history at [] = history
acts_after history at (next ∷ records) = acts_after (act_at at next ∷ history) (at + length (spelling next)) records

-- the history of these batches, the newest of them first
abbrev pub acts_of_batches : List Batch → History
acts_of_batches [] = []
acts_of_batches (batch ∷ batches) = acts_after (acts_of_batches batches) (gate_of batches + BATCH_HEADER) batch

-- the gate of the batch of the record at this offset
abbrev pub batch_of : List Batch → ℕ → ℕ
batch_of [] lsn = 0
batch_of (batch ∷ batches) lsn = if nat_lt (gate_of batches) lsn then gate_of batches else batch_of batches lsn

-- The offset is that of a gate: of a batch, or of the first that is closed.
abbrev pub IsGate : List Batch → ℕ → Type 0
IsGate [] at = at ≡ 0
IsGate (batch ∷ batches) at = (at ≡ gate_of (batch ∷ batches)) ⊎ IsGate batches at

-- a record that names a page names one below this number
abbrev pub IsBelow : ℕ → Act → Type 0
IsBelow pages (changes c) = c.rid.page < pages
IsBelow pages (undoes u) = u.rid.page < pages
IsBelow pages (enters e) = e.page < pages
IsBelow pages (commits f) = Unit {0}
IsBelow pages (ends f) = Unit {0}
IsBelow pages (marks m) = Unit {0}

-- The number of pages after these records, in a file that begins with this many. No record changes it.
abbrev pub size_after : ℕ → History → ℕ
size_after start history = start

-- each record names a page that the file had before it
abbrev pub AreBelow : ℕ → History → Type 0
AreBelow start [] = Unit {0}
AreBelow start (act ∷ before) = IsBelow (size_after start before) act × AreBelow start before
