-- What redo of a record does to a page.
use Rattle.std.specs.Prelude.{◌≡◌, ℕ, ◌<◌, ◌≤◌, List, length, option_map, Option, Some, None, IsSome, IsSomeAnd}
use Rattle.rm_types.specs.declared.numbers.Lsn.{Lsn}
use Rattle.rm_types.specs.declared.numbers.Rid.{Rid}
use Rattle.rm_types.specs.declared.slots.Slot.{Slot}
use Rattle.rm_types.specs.declared.slots.Slot.TheVariants.{Vacant, Row}
use Rattle.rm_types.specs.declared.slots.TheConstants.{CAPACITY}
use Rattle.rm_model.specs.Pages.{PageValue, row_of, used, set_slot}
use Rattle.rm_record.specs.declared.records.LogRecord.{LogRecord}
use Rattle.rm_record.specs.declared.records.LogRecord.TheVariants.{Insert, Delete, Update, Compensate, Inventory, Commit, End, Checkpoint}
use Rattle.rm_history.specs.Acts.{act_at}
use Rattle.rm_history.specs.Contents.{page_after}
use Rattle.rm_apply.specs.declared.answers.Applied.{Applied}
use Rattle.rm_apply.specs.declared.answers.Applied.TheVariants.{Changed, Older}
use Rattle.rm_apply.specs.declared.answers.ApplyRefused.{ApplyRefused}
use Rattle.rm_apply.specs.declared.answers.ApplyRefused.TheVariants.{Unfit, NoMemory}

-- the slot that a record sets, and what it holds then
abbrev pub set_by : LogRecord → Option (Rid × Slot)
set_by (Insert txn under rid need row) = Some (rid, Row row)
set_by (Delete txn under rid need old) = Some (rid, Vacant)
set_by (Update txn under rid need old new) = Some (rid, Row new)
set_by (Compensate txn undone next rid back) = Some (rid, back)
set_by (Inventory txn page category) = None
set_by (Commit txn) = None
set_by (End txn) = None
set_by (Checkpoint next losers pages blocks) = None

-- the row id of that slot, and the row that it holds then, if it holds one
abbrev pub rid_of : LogRecord → Option Rid
rid_of what = option_map (λ (set : Rid × Slot). set.0) (set_by what)

abbrev pub row_held : Option (Rid × Slot) → Option (List ℕ)
row_held None = None
row_held (Some set) = row_of set.1

abbrev pub row_in : LogRecord → Option (List ℕ)
row_in what = row_held (set_by what)

-- the record sets a slot
abbrev pub ChangesSlot : LogRecord → Type 0
ChangesSlot what = IsSome (set_by what)

-- it sets a slot of the page with this number
abbrev pub ChangesPage : LogRecord → ℕ → Type 0
ChangesPage what page = IsSomeAnd (set_by what) (λ set. set.0.page ≡ page)

-- the slots cannot have this in one of them: they would use too many bytes, or there is no such slot to be vacant
abbrev pub CannotHave : List Slot → ℕ → Slot → Type 0
CannotHave slots number Vacant = length slots ≤ number
CannotHave slots number (Row row) = CAPACITY < used (set_slot slots number (Row row))

-- the slots cannot have what the record sets
abbrev pub IsUnfit : List Slot → LogRecord → Type 0
IsUnfit slots what = IsSomeAnd (set_by what) (λ set. CannotHave slots set.0.slot set.1)

-- What redo of a record with this LSN did to the page with this number, by its answer.
abbrev pub Redoes : ℕ → PageValue → LogRecord → Lsn → Applied → PageValue → Type 0
Redoes page old what lsn Changed new = (old.lsn.0 < lsn.0) × (IsUnfit old.slots what → ⊥)
    × (new ≡ record { lsn = lsn; slots = page_after (act_at lsn.0 what) page old.slots })
Redoes page old what lsn Older new = (lsn.0 ≤ old.lsn.0) × (new ≡ old)

-- and why it was refused
abbrev pub Refuses : PageValue → LogRecord → Lsn → ApplyRefused → Type 0
Refuses old what lsn Unfit = (old.lsn.0 < lsn.0) × IsUnfit old.slots what
Refuses old what lsn NoMemory = (old.lsn.0 < lsn.0) × (IsUnfit old.slots what → ⊥)
