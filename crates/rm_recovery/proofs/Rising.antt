-- How the redo of a record goes on to that of all records.
use Rattle.std.proofs.Common.{◌≡◌, inl, inr, ℕ, ◌+◌, ◌<◌, ◌≤◌, List, [], ◌∷◌, ◌++◌, length, get_or, take, drop, refl, sym, ap, subst, ◌∙◌, arith, suc}
use Rattle.std.specs.List.{AllByRecursion}
use Rattle.std.proofs.lemmas.List.{append_assoc, length-take}
use Rattle.std.proofs.Math.Seq.{split_at, take-suc}
use Rattle.rm_record.specs.declared.records.LogRecord.{LogRecord}
use Rattle.rm_record.specs.declared.records.LogRecord.TheVariants.{Insert, Delete, Update, Compensate, Inventory, Commit, End, Checkpoint}
use Rattle.rm_record.specs.declared.records.Logged.{Logged}
use Rattle.rm_record.specs.Records.{spelling, IsRecord}
use Rattle.rm_history.specs.Acts.{History, changes, undoes, enters, commits, ends, marks, act_at, act_of, acts_onto, acts_of, newest_lsn}
use Rattle.rm_history.specs.declared.TheConstants.{BATCH_HEADER}
use Rattle.rm_history.specs.Logs.{Batch, AreBatches, gate_of}
use Rattle.rm_history.specs.Counts.{repeat_count}
use Rattle.rm_history.specs.Batched.{acts_after, acts_of_batches}
use Rattle.rm_history.proofs.Appending.{acts_onto-append, acts_of-snoc, lsn_of-act_at, newest_of_batches}
use Rattle.rm_history.proofs.Readings.{spelling_long}
use Rattle.rm_history.proofs.RecordsOfActs.{record_of-act_at}
use Rattle.rm_pool.specs.Frames.{FramesValue, CannotTake, IsAfter}
use Rattle.rm_recovery.specs.Redone.{IsMisfit, HasNoMisfit, IsMisfitAt, AreRising, AreRecords}

-- a history has no more records that restart repeats than records
repeats_few : (history : History) → repeat_count history ≤ length history
repeats_few [] = omega arith
repeats_few (changes c ∷ before) = omega (arith, repeats_few before)
repeats_few (undoes u ∷ before) = omega (arith, repeats_few before)
repeats_few (enters e ∷ before) = omega (arith, repeats_few before)
repeats_few (commits f ∷ before) = omega (arith, repeats_few before)
repeats_few (ends f ∷ before) = omega (arith, repeats_few before)
repeats_few (marks m ∷ before) = omega (arith, repeats_few before)

length-acts_onto : (history : History) (log : List Logged) → length (acts_onto history log) ≡ length history + length log
length-acts_onto history [] = omega arith
length-acts_onto history (oldest ∷ log) = omega (arith, length-acts_onto (act_of oldest ∷ history) log)

pub repeats_so_far : (records : List Logged) (i : ℕ) → repeat_count (acts_of (take i records)) ≤ length records
repeats_so_far records i =
    omega (arith, repeats_few (acts_of (take i records)), length-acts_onto [] (take i records), length-take i records)

-- one record more
pub acts_of-next : (records : List Logged) (i : ℕ) (logged : Logged) → i < length records → logged ≡ get_or records i logged
    → acts_of (take (i + 1) records) ≡ act_of logged ∷ acts_of (take i records)
acts_of-next records i logged inside is =
    let one : i + 1 ≡ suc i = omega arith in
    ap (λ (n : ℕ). acts_of (take n records)) one
    ∙ ap acts_of (take-suc records i logged inside) ∙ acts_of-snoc (take i records) (get_or records i logged) ∙ ap (λ (l : Logged). act_of l ∷ acts_of (take i records)) (sym is)

-- what is after a history
acts_onto-after : (history : History) (log : List Logged) → (more : History) × (acts_onto history log ≡ more ++ history)
acts_onto-after history [] = ([], refl)
acts_onto-after history (oldest ∷ log) =
    let rest = acts_onto-after (act_of oldest ∷ history) log in
    (rest.0 ++ act_of oldest ∷ [], rest.1 ∙ sym (append_assoc rest.0 (act_of oldest ∷ []) history))

-- the history of all records, around one of them
acts_of-around : (records : List Logged) (i : ℕ) (logged : Logged) → i < length records → logged ≡ get_or records i logged
    → (more : History) × (acts_of records ≡ more ++ act_of logged ∷ acts_of (take i records))
acts_of-around records i logged inside is =
    let prefix = take i records in
    let back = drop (suc i) records in
    let split : records ≡ prefix ++ logged ∷ back = split_at records i logged inside ∙ ap (λ (l : Logged). prefix ++ l ∷ back) (sym is) in
    let rest = acts_onto-after (act_of logged ∷ acts_of prefix) back in
    (rest.0, ap acts_of split ∙ acts_onto-append [] prefix (logged ∷ back) ∙ rest.1)

-- ---- LSNs

rising_after : (history : History) (at : ℕ) (records : List LogRecord) → AreRising history → newest_lsn history < at → AreRising (acts_after history at records)
rising_after history at [] rising below = rising
rising_after history at (next ∷ records) rising below =
    rising_after (act_at at next ∷ history) (at + length (spelling next)) records (rw (lsn_of-act_at at next) below, rising)
    (omega (arith, lsn_of-act_at at next, spelling_long next))

-- those of a log rise
pub batches_rise : (batches : List Batch) → AreRising (acts_of_batches batches)
batches_rise [] = tt
batches_rise (batch ∷ batches) = rising_after (acts_of_batches batches) (gate_of batches + BATCH_HEADER) batch (batches_rise batches) (newest_of_batches batches)

rising_before : (more before : History) → AreRising (more ++ before) → AreRising before
rising_before [] before rising = rising
rising_before (newer ∷ more) before rising = rising_before more before rising.1

is_after : (history : History) (lsn : ℕ) → AreRising history → newest_lsn history < lsn → IsAfter history lsn
is_after [] lsn rising below = below
is_after (act ∷ before) lsn rising below = (below, is_after before lsn rising.1 (omega (arith, rising.0, below)))

-- so the next record's is above those so far
pub next_after : (records : List Logged) (i : ℕ) (logged : Logged) → i < length records → logged ≡ get_or records i logged → AreRising (acts_of records)
    → IsAfter (acts_of (take i records)) logged.lsn.0
next_after records i logged inside is rising =
    let around = acts_of-around records i logged inside is in
    let here = rising_before around.0 (act_of logged ∷ acts_of (take i records)) (subst AreRising around.1 rising) in
    is_after (acts_of (take i records)) logged.lsn.0 here.1 (omega (arith, here.0, lsn_of-act_at logged.lsn.0 logged.what))

-- ---- records in their ranges

records_after : (history : History) (at : ℕ) (records : List LogRecord) → AreRecords history → AllByRecursion IsRecord records → AreRecords (acts_after history at records)
records_after history at [] are all = are
records_after history at (next ∷ records) are all =
    records_after (act_at at next ∷ history) (at + length (spelling next)) records (rw (record_of-act_at at next) all.0, are) all.1

-- those of a log are
pub batches_are_records : (batches : List Batch) → AreBatches batches → AreRecords (acts_of_batches batches)
batches_are_records [] are = tt
batches_are_records (batch ∷ batches) are =
    records_after (acts_of_batches batches) (gate_of batches + BATCH_HEADER) batch (batches_are_records batches are.0) are.1.records

records_before : (more before : History) → AreRecords (more ++ before) → AreRecords before
records_before [] before are = are
records_before (newer ∷ more) before are = records_before more before are.1

-- so each is
pub next_is_record : (records : List Logged) (i : ℕ) (logged : Logged) → i < length records → logged ≡ get_or records i logged → AreRecords (acts_of records)
    → IsRecord logged.what
next_is_record records i logged inside is are =
    let around = acts_of-around records i logged inside is in
    let here = records_before around.0 (act_of logged ∷ acts_of (take i records)) (subst AreRecords around.1 are) in
    subst IsRecord (record_of-act_at logged.lsn.0 logged.what) here.0

-- ---- misfits

-- what a file cannot take is a misfit, and what is one it cannot take, or it is a checkpoint
pub is_misfit : (frames : FramesValue) (what : LogRecord) (lsn : ℕ) → CannotTake frames what → IsMisfit frames.size frames.applied (act_at lsn what)
is_misfit frames (Insert txn under rid need row) lsn (inl cannot) = cannot
is_misfit frames (Insert txn under rid need row) lsn (inr cannot) = absurd cannot
is_misfit frames (Delete txn under rid need old) lsn (inl cannot) = cannot
is_misfit frames (Delete txn under rid need old) lsn (inr cannot) = absurd cannot
is_misfit frames (Update txn under rid need old new) lsn (inl cannot) = cannot
is_misfit frames (Update txn under rid need old new) lsn (inr cannot) = absurd cannot
is_misfit frames (Compensate txn undone next rid back) lsn (inl cannot) = cannot
is_misfit frames (Compensate txn undone next rid back) lsn (inr cannot) = absurd cannot
is_misfit frames (Inventory txn page category) lsn (inl cannot) = absurd cannot
is_misfit frames (Inventory txn page category) lsn (inr cannot) = cannot
is_misfit frames (Commit txn) lsn (inl cannot) = absurd cannot
is_misfit frames (Commit txn) lsn (inr cannot) = absurd cannot
is_misfit frames (End txn) lsn (inl cannot) = absurd cannot
is_misfit frames (End txn) lsn (inr cannot) = absurd cannot
is_misfit frames (Checkpoint next losers pages blocks) lsn cannot = tt

-- a misfit so far is the first of all records
pub misfit_of_all : (pages : ℕ) (records : List Logged) (i : ℕ) (logged : Logged) → i < length records → logged ≡ get_or records i logged
    → HasNoMisfit pages (acts_of (take i records)) → IsMisfit pages (acts_of (take i records)) (act_of logged) → IsMisfitAt pages (acts_of records) logged.lsn.0
misfit_of_all pages records i logged inside is none misfit =
    let around = acts_of-around records i logged inside is in
    record {
      more = around.0;
      act = act_of logged;
      before = acts_of (take i records);
      split = around.1;
      place = sym (lsn_of-act_at logged.lsn.0 logged.what);
      misfit = misfit;
      first = none;
    }
