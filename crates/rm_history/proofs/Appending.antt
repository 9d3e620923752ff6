-- How a history goes on, record by record; and how far its LSNs go.
use Rattle.std.proofs.Common.{◌≡◌, ℕ, ◌+◌, ◌<◌, List, [], ◌∷◌, ◌++◌, length, refl, ap, ◌∙◌, arith, length-append, add-zero}
use Rattle.rm_record.specs.declared.records.LogRecord.{LogRecord}
use Rattle.rm_record.specs.declared.records.LogRecord.TheVariants.{Insert, Delete, Update, Compensate, Inventory, Commit, End, Checkpoint}
use Rattle.rm_record.specs.declared.records.Logged.{Logged}
use Rattle.rm_record.specs.Records.{spelling, spelling_all}
use Rattle.rm_history.specs.declared.TheConstants.{BATCH_HEADER}
use Rattle.rm_history.specs.Logs.{Batch, gate_of}
use Rattle.rm_history.specs.Acts.{History, act_at, act_of, acts_onto, acts_of, lsn_of, newest_lsn}
use Rattle.rm_history.specs.Batched.{acts_after, acts_of_batches}
use Rattle.rm_history.proofs.Readings.{spelling_long}

pub length-spelling_all : (next : LogRecord) (records : List LogRecord)
    → length (spelling_all (next ∷ records)) ≡ length (spelling next) + length (spelling_all records)
length-spelling_all next records = length-append (spelling next) (spelling_all records)

-- ---- records after a history

-- first some records, then others
pub acts_after-append : (history : History) (at : ℕ) (first second : List LogRecord)
    → acts_after history at (first ++ second) ≡ acts_after (acts_after history at first) (at + length (spelling_all first)) second
acts_after-append history at [] second = rw add-zero refl
acts_after-append history at (next ∷ first) second =
    let here : History = act_at at next ∷ history in
    acts_after-append here (at + length (spelling next)) first second
    ∙ ap (λ (n : ℕ). acts_after (acts_after here (at + length (spelling next)) first) n second) (omega (arith, length-spelling_all next first))

-- the newest record
pub acts_after-snoc : (history : History) (at : ℕ) (records : List LogRecord) (next : LogRecord)
    → acts_after history at (records ++ next ∷ []) ≡ act_at (at + length (spelling_all records)) next ∷ acts_after history at records
acts_after-snoc history at records next = acts_after-append history at records (next ∷ [])

-- ---- the history of a log

-- first some records, then others
pub acts_onto-append : (history : History) (first second : List Logged) → acts_onto history (first ++ second) ≡ acts_onto (acts_onto history first) second
acts_onto-append history [] second = refl
acts_onto-append history (oldest ∷ first) second = acts_onto-append (act_of oldest ∷ history) first second

-- the newest record
pub acts_of-snoc : (log : List Logged) (newest : Logged) → acts_of (log ++ newest ∷ []) ≡ act_of newest ∷ acts_of log
acts_of-snoc log newest = acts_onto-append [] log (newest ∷ [])

-- ---- LSNs

-- the LSN of a record that stands there
pub lsn_of-act_at : (at : ℕ) (next : LogRecord) → lsn_of (act_at at next) ≡ at
lsn_of-act_at at (Insert txn under rid need row) = refl
lsn_of-act_at at (Delete txn under rid need old) = refl
lsn_of-act_at at (Update txn under rid need old new) = refl
lsn_of-act_at at (Compensate txn undone next rid back) = refl
lsn_of-act_at at (Inventory txn page category) = refl
lsn_of-act_at at (Commit txn) = refl
lsn_of-act_at at (End txn) = refl
lsn_of-act_at at (Checkpoint next losers pages blocks) = refl

-- it is below the offset where the next record comes, after some records
pub newest_below : (history : History) (at : ℕ) (records : List LogRecord) → newest_lsn history < at
    → newest_lsn (acts_after history at records) < at + length (spelling_all records)
newest_below history at [] below = omega arith
newest_below history at (next ∷ records) below =
    let rest = newest_below (act_at at next ∷ history) (at + length (spelling next)) records (omega (arith, lsn_of-act_at at next, spelling_long next)) in
    omega (arith, rest, length-spelling_all next records)

-- and after some batches
pub newest_of_batches : (batches : List Batch) → newest_lsn (acts_of_batches batches) < gate_of batches + BATCH_HEADER
newest_of_batches [] = omega arith
newest_of_batches (batch ∷ batches) = omega (arith, newest_below (acts_of_batches batches) (gate_of batches + BATCH_HEADER) batch (newest_of_batches batches))
