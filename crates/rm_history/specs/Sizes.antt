-- The records of a history, their bytes, and the LSN that comes next.
use Rattle.std.specs.Prelude.{◌≡◌, ℕ, ◌+◌, [], ◌∷◌, length, ◌⊎◌}
use Rattle.rm_types.specs.declared.numbers.Rid.{Rid}
use Rattle.rm_types.specs.declared.slots.Slot.{Slot}
use Rattle.rm_types.specs.declared.slots.Slot.TheVariants.{Vacant, Row}
use Rattle.rm_record.specs.declared.records.LogRecord.{LogRecord}
use Rattle.rm_record.specs.declared.records.LogRecord.TheVariants.{Insert, Delete, Update, Compensate, Inventory, Commit, End, Checkpoint}
use Rattle.rm_record.specs.Records.{spelling}
use Rattle.rm_history.specs.declared.TheConstants.{BATCH_HEADER}
use Rattle.rm_history.specs.Acts.{Act, History, changes, undoes, enters, commits, ends, lists, lsn_of, marks}

-- the record of a change, by what the slot held and holds; of none where it held and holds no row
abbrev pub change_record : ℕ → ℕ → Rid → ℕ → Slot → Slot → LogRecord
change_record txn under rid need Vacant Vacant = Insert (record { 0 = txn }) (record { 0 = under }) rid need []
change_record txn under rid need Vacant (Row new) = Insert (record { 0 = txn }) (record { 0 = under }) rid need new
change_record txn under rid need (Row old) Vacant = Delete (record { 0 = txn }) (record { 0 = under }) rid need old
change_record txn under rid need (Row old) (Row new) = Update (record { 0 = txn }) (record { 0 = under }) rid need old new

-- the record that does this
abbrev pub record_of : Act → LogRecord
record_of (changes c) = change_record c.txn c.under c.rid c.need c.before c.after
record_of (undoes u) = Compensate (record { 0 = u.txn }) (record { 0 = u.undone }) (record { 0 = u.next }) u.rid u.back
record_of (enters e) = Inventory (record { 0 = e.txn }) e.page e.category
record_of (commits f) = Commit (record { 0 = f.txn })
record_of (ends f) = End (record { 0 = f.txn })
record_of (marks (lists l)) = Checkpoint l.next l.losers l.pages l.blocks

-- its bytes
unfoldable pub size_of : Act → ℕ
size_of act = length (spelling (record_of act))

-- the offset after the newest record, 0 where there is none
abbrev pub end_of : History → ℕ
end_of [] = 0
end_of (newest ∷ before) = lsn_of newest + size_of newest

-- the next record may stand there: after the newest one, or a batch's header further, as the first one does
abbrev pub IsNext : History → ℕ → Type 0
IsNext [] lsn = lsn ≡ BATCH_HEADER
IsNext (newest ∷ before) lsn = (lsn ≡ end_of (newest ∷ before)) ⊎ (lsn ≡ end_of (newest ∷ before) + BATCH_HEADER)
