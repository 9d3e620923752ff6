-- No two records do the same with the same LSN.
use Rattle.std.proofs.Common.{◌≡◌, ℕ, refl, sym, ap, ◌∙◌}
use Rattle.rm_record.specs.declared.records.LogRecord.{LogRecord}
use Rattle.rm_record.specs.declared.records.LogRecord.TheVariants.{Insert, Delete, Update, Compensate, Inventory, Commit, End, Checkpoint}
use Rattle.rm_history.specs.Acts.{act_at, lsn_of}
use Rattle.rm_history.specs.Sizes.{record_of}
use Rattle.rm_history.specs.Laws.{ActsDetermineRecords}
use Rattle.rm_history.proofs.Appending.{lsn_of-act_at}

pub record_of-act_at : (lsn : ℕ) (what : LogRecord) → record_of (act_at lsn what) ≡ what
record_of-act_at lsn (Insert txn under rid need row) = refl
record_of-act_at lsn (Delete txn under rid need old) = refl
record_of-act_at lsn (Update txn under rid need old new) = refl
record_of-act_at lsn (Compensate txn undone next rid back) = refl
record_of-act_at lsn (Inventory txn page category) = refl
record_of-act_at lsn (Commit txn) = refl
record_of-act_at lsn (End txn) = refl
record_of-act_at lsn (Checkpoint next losers pages blocks) = refl

pub acts_determine_records : ActsDetermineRecords
acts_determine_records one other same =
    let lsns : one.lsn.0 ≡ other.lsn.0 = sym (lsn_of-act_at one.lsn.0 one.what) ∙ ap lsn_of same ∙ lsn_of-act_at other.lsn.0 other.what in
    let whats : one.what ≡ other.what = sym (record_of-act_at one.lsn.0 one.what) ∙ ap record_of same ∙ record_of-act_at other.lsn.0 other.what in
    λ i. record { lsn = record { 0 = lsns i }; what = whats i }
