-- How the replay of a record goes on to that of all records.
use Rattle.std.proofs.Common.{◌≡◌, inl, inr, ℕ, ◌+◌, ◌<◌, ◌≤◌, List, [], ◌∷◌, ◌++◌, length, get_or, take, drop, refl, sym, ap, subst, ◌∙◌, arith, suc}
use Rattle.std.proofs.lemmas.List.{append_assoc, length-take}
use Rattle.std.proofs.Math.Seq.{split_at, take-suc}
use Rattle.rm_types.specs.declared.slots.TheConstants.{CAPACITY}
use Rattle.rm_model.specs.Pages.{used}
use Rattle.rm_record.specs.declared.records.LogRecord.{LogRecord}
use Rattle.rm_record.specs.declared.records.Logged.{Logged}
use Rattle.rm_history.specs.Acts.{Act, History, changes, undoes, enters, commits, ends, marks, act_at, act_of, acts_onto, acts_of, lsn_of, newest_lsn}
use Rattle.rm_history.specs.declared.TheConstants.{BATCH_HEADER}
use Rattle.rm_history.specs.Contents.{page_of}
use Rattle.rm_history.specs.Logs.{Batch, gate_of}
use Rattle.rm_record.specs.Records.{spelling}
use Rattle.rm_history.specs.Counts.{repeat_count}
use Rattle.rm_history.specs.Batched.{IsBelow, AreBelow, acts_after, acts_of_batches}
use Rattle.rm_history.proofs.Appending.{acts_onto-append, acts_of-snoc, lsn_of-act_at, newest_of_batches}
use Rattle.rm_history.proofs.Readings.{spelling_long}
use Rattle.rm_restart.specs.Plain.{IsPlain, ArePlain}
use Rattle.rm_restart.specs.declared.replay.Replay.{Replay}
use Rattle.rm_restart.specs.Opening.{IsMisfit, HasNoMisfit, IsMisfitAt}
use Rattle.rm_restart.specs.Replaying.{AreRising, FitBefore, Replays}

-- a history has no more records that restart repeats than records
repeats_few : (history : History) → repeat_count history ≤ length history
repeats_few [] = omega arith
repeats_few (changes c ∷ before) = omega (arith, repeats_few before)
repeats_few (undoes u ∷ before) = omega (arith, repeats_few before)
repeats_few (enters e ∷ before) = omega (arith, repeats_few before)
repeats_few (commits f ∷ before) = omega (arith, repeats_few before)
repeats_few (ends f ∷ before) = omega (arith, repeats_few before)
repeats_few (marks m ∷ before) = omega (arith, repeats_few before)

length-acts_onto : (history : History) (log : List Logged) → length (acts_onto history log) ≡ length history + length log
length-acts_onto history [] = omega arith
length-acts_onto history (oldest ∷ log) = omega (arith, length-acts_onto (act_of oldest ∷ history) log)

pub repeats_so_far : (records : List Logged) (i : ℕ) → repeat_count (acts_of (take i records)) ≤ length records
repeats_so_far records i =
    omega (arith, repeats_few (acts_of (take i records)), length-acts_onto [] (take i records), length-take i records)

-- one record more
pub acts_of-next : (records : List Logged) (i : ℕ) (logged : Logged) → i < length records → logged ≡ get_or records i logged
    → acts_of (take (i + 1) records) ≡ act_of logged ∷ acts_of (take i records)
acts_of-next records i logged inside is =
    let one : i + 1 ≡ suc i = omega arith in
    ap (λ (n : ℕ). acts_of (take n records)) one
    ∙ ap acts_of (take-suc records i logged inside) ∙ acts_of-snoc (take i records) (get_or records i logged) ∙ ap (λ (l : Logged). act_of l ∷ acts_of (take i records)) (sym is)

-- what is after a history
acts_onto-after : (history : History) (log : List Logged) → (more : History) × (acts_onto history log ≡ more ++ history)
acts_onto-after history [] = ([], refl)
acts_onto-after history (oldest ∷ log) =
    let rest = acts_onto-after (act_of oldest ∷ history) log in
    (rest.0 ++ act_of oldest ∷ [], rest.1 ∙ sym (append_assoc rest.0 (act_of oldest ∷ []) history))

-- the history of all records, around one of them
acts_of-around : (records : List Logged) (i : ℕ) (logged : Logged) → i < length records → logged ≡ get_or records i logged
    → (more : History) × (acts_of records ≡ more ++ act_of logged ∷ acts_of (take i records))
acts_of-around records i logged inside is =
    let prefix = take i records in
    let back = drop (suc i) records in
    let split : records ≡ prefix ++ logged ∷ back = split_at records i logged inside ∙ ap (λ (l : Logged). prefix ++ l ∷ back) (sym is) in
    let rest = acts_onto-after (act_of logged ∷ acts_of prefix) back in
    (rest.0, ap acts_of split ∙ acts_onto-append [] prefix (logged ∷ back) ∙ rest.1)

-- ---- LSNs

rising_after : (history : History) (at : ℕ) (records : List LogRecord) → AreRising history → newest_lsn history < at → AreRising (acts_after history at records)
rising_after history at [] rising below = rising
rising_after history at (next ∷ records) rising below =
    rising_after (act_at at next ∷ history) (at + length (spelling next)) records (rw (lsn_of-act_at at next) below, rising)
    (omega (arith, lsn_of-act_at at next, spelling_long next))

-- those of a log rise
pub batches_rise : (batches : List Batch) → AreRising (acts_of_batches batches)
batches_rise [] = tt
batches_rise (batch ∷ batches) = rising_after (acts_of_batches batches) (gate_of batches + BATCH_HEADER) batch (batches_rise batches) (newest_of_batches batches)

above_older : (more : History) (act : Act) (before : History) → AreRising (more ++ act ∷ before) → newest_lsn before < lsn_of act
above_older [] act before rising = rising.0
above_older (newer ∷ more) act before rising = above_older more act before rising.1

-- so the next record's is above those so far
pub next_above : (records : List Logged) (i : ℕ) (logged : Logged) → i < length records → logged ≡ get_or records i logged → AreRising (acts_of records)
    → newest_lsn (acts_of (take i records)) < logged.lsn.0
next_above records i logged inside is rising =
    let around = acts_of-around records i logged inside is in
    omega (arith, above_older around.0 (act_of logged) (acts_of (take i records)) (subst AreRising around.1 rising), lsn_of-act_at logged.lsn.0 logged.what)

-- ---- misfits

-- a record that names a page of the file, is plain, and leaves pages that fit is no misfit
pub not_misfit : (pages : ℕ) (before : History) (act : Act) → IsBelow pages act → IsPlain act
    → ((page : ℕ) → used (page_of (act ∷ before) page) ≤ CAPACITY) → IsMisfit pages before act → ⊥
not_misfit pages before act below plain fits (inl outside) = outside below
not_misfit pages before act below plain fits (inr (inl other)) = other plain
not_misfit pages before act below plain fits (inr (inr over)) = omega (arith, fits over.0, over.1)

no_misfits : (pages : ℕ) (history : History) → AreBelow pages history → ArePlain history
    → ((page : ℕ) → used (page_of history page) ≤ CAPACITY) → FitBefore history → HasNoMisfit pages history
no_misfits pages [] below plain fits fitted = tt
no_misfits pages (act ∷ before) below plain fits fitted =
    (not_misfit pages before act below.0 plain.0 fits, no_misfits pages before below.1 plain.1 fitted.0 fitted.1)

-- a misfit so far is the first of all records
pub misfit_of_all : (pages : ℕ) (records : List Logged) (i : ℕ) (logged : Logged) (replay : Replay) → i < length records → logged ≡ get_or records i logged
    → Replays pages (acts_of (take i records)) replay → IsMisfit pages (acts_of (take i records)) (act_of logged) → IsMisfitAt pages (acts_of records) logged.lsn.0
misfit_of_all pages records i logged replay inside is replays misfit =
    let around = acts_of-around records i logged inside is in
    record {
      more = around.0;
      act = act_of logged;
      before = acts_of (take i records);
      split = around.1;
      place = sym (lsn_of-act_at logged.lsn.0 logged.what);
      misfit = misfit;
      first = no_misfits pages (acts_of (take i records)) replays.below replays.plain replays.fits replays.fitted;
    }
