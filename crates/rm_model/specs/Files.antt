-- A file of pages, and the rows that it holds.
use Rattle.std.specs.Prelude.{ℕ, List, [], map, slice_index_or, slice_set}
use Rattle.rm_types.specs.declared.numbers.Rid.{Rid}
use Rattle.rm_types.specs.declared.slots.Slot.{Slot}
use Rattle.rm_types.specs.declared.slots.Slot.TheVariants.{Row}
use Rattle.rm_model.specs.Pages.{PageValue, row_at, set_slot}
use Rattle.rm_model.specs.Object.{Rows}

-- the slots of each page
abbrev pub slots_of : List PageValue → List (List Slot)
slots_of pages = map (λ page. page.slots) pages

-- the slots of a page, by its number
abbrev pub page_at : List (List Slot) → ℕ → List Slot
page_at pages number = slice_index_or pages number []

-- the rows of a file of pages
abbrev pub rows_of : List (List Slot) → Rows
rows_of pages = λ rid. row_at (page_at pages rid.page) rid.slot

-- the pages with a row set
abbrev pub set_row : List (List Slot) → Rid → List ℕ → List (List Slot)
set_row pages rid row = slice_set pages rid.page (set_slot (page_at pages rid.page) rid.slot (Row row))
