-- What restart's undo adds to a log at the most, where the log begins in a given format.
use Rattle.std.specs.Prelude.{ℕ, ◌+◌, ◌==◌, if◌then◌else◌, List, [], ◌∷◌, length}
use Rattle.rm_types.specs.declared.formats.Format.{Format}
use Rattle.rm_record.specs.declared.records.LogRecord.{LogRecord}
use Rattle.rm_record.specs.declared.records.LogRecord.TheVariants.{Compensate, Inventory, End}
use Rattle.rm_record.specs.Records.{spelling}
use Rattle.rm_history.specs.declared.TheConstants.{BATCH_HEADER}
use Rattle.rm_history.specs.Acts.{Change, Undo, Entry, History, undoes, enters, newest_lsn}
use Rattle.rm_history.specs.Contents.{entry_of}
use Rattle.rm_history.specs.Pending.{all_pending}
use Rattle.rm_history.specs.Losers.{losers_of}
use Rattle.rm_history.specs.Undoing.{category_after, entry_for, undo_for}

-- the records that undo
abbrev pub inventory_record : Entry → LogRecord
inventory_record e = Inventory (record { 0 = e.txn }) e.page e.category

abbrev pub compensate_record : Undo → LogRecord
compensate_record u = Compensate (record { 0 = u.txn }) (record { 0 = u.undone }) (record { 0 = u.next }) u.rid u.back

abbrev pub end_record : ℕ → LogRecord
end_record txn = End (record { 0 = txn })

-- what a record adds to a log at the most: its bytes, and a batch's header
abbrev pub bytes_of : LogRecord → ℕ
bytes_of logged = length (spelling logged) + BATCH_HEADER

-- the LSN that comes next, where it does not matter which
abbrev pub some_lsn : History → ℕ
some_lsn history = newest_lsn history + 1

-- the history with the change's page entered, where that is needed, and with the change undone
abbrev pub with_entry : Format → History → Change → History
with_entry start history last =
    if entry_of history last.rid.page == category_after start history last then history else enters (entry_for start (some_lsn history) history last) ∷ history

abbrev pub with_undo : Format → History → Change → History
with_undo start history last = undoes (undo_for (some_lsn (with_entry start history last)) last) ∷ with_entry start history last

-- the bytes of the record that enters the category after an undo: none where the entry will be right
abbrev pub entry_bytes : Format → History → Change → ℕ
entry_bytes start history last =
    if entry_of history last.rid.page == category_after start history last then 0 else bytes_of (inventory_record (entry_for start 0 history last))

-- the bytes of undoing these changes, one after the other
abbrev pub undoing_bytes : Format → History → List Change → ℕ
undoing_bytes start history [] = 0
undoing_bytes start history (last ∷ rest) =
    entry_bytes start history last + bytes_of (compensate_record (undo_for 0 last)) + undoing_bytes start (with_undo start history last) rest

-- the bytes of ending these transactions
abbrev pub ending_bytes : List ℕ → ℕ
ending_bytes [] = 0
ending_bytes (txn ∷ rest) = bytes_of (end_record txn) + ending_bytes rest

-- What restart's undo of a history adds to its log at the most.
abbrev pub undo_bytes : Format → History → ℕ
undo_bytes start history = undoing_bytes start history (all_pending history) + ending_bytes (losers_of history)
