-- What redo of a record does to a block of the inventory.
use Rattle.std.specs.Prelude.{◌≡◌, ℕ, ◌+◌, ◌*◌, ◌/◌, ◌<◌, ◌≤◌, Option, Some, None, IsSomeAnd, slice_index}
use Rattle.rm_types.specs.declared.formats.TheConstants.{MAX_CATEGORY}
use Rattle.rm_types.specs.declared.numbers.Lsn.{Lsn}
use Rattle.rm_types.specs.declared.numbers.TheConstants.{BLOCK_PAGES}
use Rattle.rm_inventory.specs.Inventory.{InventoryValue}
use Rattle.rm_record.specs.declared.records.LogRecord.{LogRecord}
use Rattle.rm_record.specs.declared.records.LogRecord.TheVariants.{Insert, Delete, Update, Compensate, Inventory, Commit, End, Checkpoint}
use Rattle.rm_history.specs.Acts.{act_at}
use Rattle.rm_history.specs.Contents.{entry_after}
use Rattle.rm_apply.specs.declared.answers.Applied.{Applied}
use Rattle.rm_apply.specs.declared.answers.Applied.TheVariants.{Changed, Older}

-- the page and the category that a record enters
abbrev pub entered_by : LogRecord → Option (ℕ × ℕ)
entered_by (Insert txn under rid need row) = None
entered_by (Delete txn under rid need old) = None
entered_by (Update txn under rid need old new) = None
entered_by (Compensate txn undone next rid back) = None
entered_by (Inventory txn page category) = Some (page, category)
entered_by (Commit txn) = None
entered_by (End txn) = None
entered_by (Checkpoint next losers pages blocks) = None

-- the record enters a category that an entry may have
abbrev pub EntersCategory : LogRecord → Type 0
EntersCategory what = IsSomeAnd (entered_by what) (λ entered. entered.1 ≤ MAX_CATEGORY)

-- it enters that of a page of the block with this number
abbrev pub ChangesBlock : LogRecord → ℕ → Type 0
ChangesBlock what block = IsSomeAnd (entered_by what) (λ entered. (entered.0 / BLOCK_PAGES) ≡ block)

-- What redo of a record with this LSN did to the block with this number, by its answer.
abbrev pub RedoesEntry : ℕ → InventoryValue → LogRecord → Lsn → Applied → InventoryValue → Type 0
RedoesEntry block old what lsn Changed new = (old.lsn.0 < lsn.0) × (new.lsn ≡ lsn)
    × ((index : ℕ) → slice_index new.entries index ≡ entry_after (act_at lsn.0 what) (BLOCK_PAGES * block + index) (slice_index old.entries index))
RedoesEntry block old what lsn Older new = (lsn.0 ≤ old.lsn.0) × (new ≡ old)
