-- What a history says of pages and of the inventory.
use Rattle.std.specs.Prelude.{ℕ, ◌==◌, ◌/◌, if◌then◌else◌, List, [], ◌∷◌, Option, Some, None}
use Rattle.rm_types.specs.declared.slots.Slot.{Slot}
use Rattle.rm_types.specs.declared.slots.Slot.TheVariants.{Vacant, Row}
use Rattle.rm_types.specs.declared.formats.Format.{Format}
use Rattle.rm_types.specs.declared.numbers.TheConstants.{BLOCK_PAGES}
use Rattle.rm_model.specs.Pages.{set_slot}
use Rattle.rm_history.specs.Acts.{Act, History, changes, undoes, enters, commits, ends, marks}

-- what a slot holds where there is such a row, or none
abbrev pub slot_of : Option (List ℕ) → Slot
slot_of None = Vacant
slot_of (Some row) = Row row

-- the slots of a page after a record: one that names a slot of it sets that slot
abbrev pub page_after : Act → ℕ → List Slot → List Slot
page_after (changes c) page slots = if c.rid.page == page then set_slot slots c.rid.slot c.after else slots
page_after (undoes u) page slots = if u.rid.page == page then set_slot slots u.rid.slot u.back else slots
page_after (enters e) page slots = slots
page_after (commits f) page slots = slots
page_after (ends f) page slots = slots
page_after (marks m) page slots = slots

-- the slots of a page
abbrev pub page_of : History → ℕ → List Slot
page_of [] page = []
page_of (act ∷ before) page = page_after act page (page_of before page)

-- The format in force after these records, of a log that begins in this one. No record changes it.
abbrev pub format_after : Format → History → Format
format_after start history = start

-- the LSN of the last record that set a slot of the page, after one more record; and of all, 0 for none
abbrev pub version_after : Act → ℕ → ℕ → ℕ
version_after (changes c) page version = if c.rid.page == page then c.lsn else version
version_after (undoes u) page version = if u.rid.page == page then u.lsn else version
version_after (enters e) page version = version
version_after (commits f) page version = version
version_after (ends f) page version = version
version_after (marks m) page version = version

abbrev pub version_of : History → ℕ → ℕ
version_of [] page = 0
version_of (act ∷ before) page = version_after act page (version_of before page)

-- the category that the inventory has for the page after a record; and after all, 0 before the first
abbrev pub entry_after : Act → ℕ → ℕ → ℕ
entry_after (changes c) page entry = entry
entry_after (undoes u) page entry = entry
entry_after (enters e) page entry = if e.page == page then e.category else entry
entry_after (commits f) page entry = entry
entry_after (ends f) page entry = entry
entry_after (marks m) page entry = entry

abbrev pub entry_of : History → ℕ → ℕ
entry_of [] page = 0
entry_of (act ∷ before) page = entry_after act page (entry_of before page)

-- the LSN of the last record that entered a category in this block of the inventory, after one more record; and of all, 0 for none
abbrev pub block_version_after : Act → ℕ → ℕ → ℕ
block_version_after (changes c) block version = version
block_version_after (undoes u) block version = version
block_version_after (enters e) block version = if (e.page / BLOCK_PAGES) == block then e.lsn else version
block_version_after (commits f) block version = version
block_version_after (ends f) block version = version
block_version_after (marks m) block version = version

abbrev pub block_version_of : History → ℕ → ℕ
block_version_of [] block = 0
block_version_of (act ∷ before) block = block_version_after act block (block_version_of before block)
