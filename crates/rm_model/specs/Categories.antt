-- How full a page is in the inventory, and which pages a search for room passes by.
use Rattle.std.specs.Prelude.{ℕ, ◌+◌, ◌*◌, ◌/◌, ◌<◌, List, min}
use Rattle.rm_types.specs.declared.formats.Format.{Format}
use Rattle.rm_types.specs.declared.slots.Slot.{Slot}
use Rattle.rm_types.specs.declared.slots.TheConstants.{CAPACITY}
use Rattle.rm_types.specs.Formats.{category_bytes, greatest_category}
use Rattle.rm_model.specs.Pages.{used}

-- how full a page with these slots is, in a format's steps
abbrev pub category_of : Format → List Slot → ℕ
category_of format slots = min (greatest_category format) (used slots / category_bytes format)

-- by its entry a page is not looked at for a row of `len` bytes
abbrev pub IsExcluded : Format → ℕ → ℕ → Type 0
IsExcluded format entry len = CAPACITY < category_bytes format * entry + len
