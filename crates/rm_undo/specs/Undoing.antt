-- What the undo of a change writes, and why it cannot be written.
use Rattle.std.specs.Prelude.{◌≡◌, ℕ, ◌/◌, ◌<◌, ◌⊎◌, Option, Some, None, ◌∷◌}
use Rattle.rm_types.specs.declared.formats.Format.{Format}
use Rattle.rm_types.specs.declared.numbers.Lsn.{Lsn}
use Rattle.rm_types.specs.declared.numbers.Rid.{Rid}
use Rattle.rm_types.specs.declared.numbers.TxnId.{TxnId}
use Rattle.rm_types.specs.declared.numbers.TheConstants.{BLOCK_PAGES}
use Rattle.rm_types.specs.declared.slots.Slot.{Slot}
use Rattle.rm_model.specs.Pages.{row_length}
use Rattle.rm_record.specs.declared.records.LogRecord.TheVariants.{Compensate, Inventory}
use Rattle.rm_history.specs.Acts.{Change, History, enters, undoes}
use Rattle.rm_history.specs.Contents.{entry_of}
use Rattle.rm_history.specs.Sizes.{IsNext}
use Rattle.rm_history.specs.Undoing.{category_after, entry_for, undo_for}
use Rattle.rm_pool.specs.Stores.{CannotWrite, StoreValue, next_of, on_volume, with_block, with_page, written}
use Rattle.rm_undo.specs.Changes.{IsAstray}
use Rattle.rm_undo.specs.declared.undoing.Undone.{Undone}

-- the store with a page and its block of the inventory fixed
abbrev pub with_entry : {V : Type 0} → StoreValue V → ℕ → StoreValue V
with_entry store page = with_block (with_page store page) (page / BLOCK_PAGES)

-- ---- before the undo

-- Of a store: a page and its block are fixed, and a category is entered for it if that wrote a record, which has the LSN.
abbrev pub Settled : {V : Type 0} → TxnId → StoreValue V → Option Lsn → StoreValue V → Type 0
Settled txn old None new = (page : ℕ) × (new ≡ with_entry (on_volume old new.journal.volume) page)
Settled txn old (Some lsn) new = (page : ℕ) × (category : ℕ) × (lsn.0 ≡ next_of old) × IsNext old.journal.history lsn.0
    × (new ≡ written (with_entry (on_volume old new.journal.volume) page) (Inventory txn page category))

-- and of the history: the page's entry was right for the undo of the change, or it is entered
abbrev pub SettlesFor : Format → Change → History → Option Lsn → History → Type 0
SettlesFor format c before None new = (entry_of before c.rid.page ≡ category_after format before c) × (new ≡ before)
SettlesFor format c before (Some lsn) new = (entry_of before c.rid.page ≡ category_after format before c → ⊥)
    × (new ≡ enters (entry_for format lsn.0 before c) ∷ before)

-- ---- the undo

-- Of a store: a page of the file is fixed, and the compensation of the change with that LSN is written. The pending record below
-- the change is below it.
pub record Compensated {V : Type 0} (txn : TxnId) (change : Lsn) (old : StoreValue V) (undone : Undone) (new : StoreValue V) : Type 0 where
  pub rid : Rid
  pub back : Slot
  pub lsn : undone.lsn.0 ≡ next_of old
  pub above : IsNext old.journal.history undone.lsn.0
  pub inside : rid.page < old.frames.size
  pub below : undone.next.0 < change.0
  pub page : undone.page ≡ rid.page
  pub before : undone.before ≡ row_length back
  pub new_is : new ≡ written (with_page (on_volume old new.journal.volume) rid.page) (Compensate txn change undone.next rid back)

-- and of the history: the change is undone, by a record with this LSN, and what is told is of the change
pub record CompensatedFor (c : Change) (lsn : ℕ) (old : History) (undone : Undone) (new : History) : Type 0 where
  pub new_is : new ≡ undoes (undo_for lsn c) ∷ old
  pub page : undone.page ≡ c.rid.page
  pub need : undone.need ≡ c.need
  pub next : undone.next.0 ≡ c.under
  pub before : undone.before ≡ row_length c.before

-- ---- where the log is damaged

-- The change is astray, or the right entry cannot be written.
abbrev pub CannotSettle : {V : Type 0} → Format → TxnId → Lsn → StoreValue V → Change → Type 0
CannotSettle format txn lsn store c = IsAstray lsn store.frames.size c
    ⊎ CannotWrite (with_entry store c.rid.page) (Inventory txn c.rid.page (category_after format store.journal.history c))

-- It is astray, or the compensation cannot be written.
abbrev pub CannotUndo : {V : Type 0} → TxnId → Lsn → StoreValue V → Change → Type 0
CannotUndo txn lsn store c = IsAstray lsn store.frames.size c
    ⊎ CannotWrite (with_page store c.rid.page) (Compensate txn lsn (record { 0 = c.under }) c.rid c.before)
