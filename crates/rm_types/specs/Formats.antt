-- What the format of a volume sets.
use Rattle.std.specs.Prelude.{ℕ, ◌+◌, ◌-◌, ◌/◌}
use Rattle.rm_types.specs.declared.formats.Format.{Format}
use Rattle.rm_types.specs.declared.formats.Format.TheVariants.{One}
use Rattle.rm_types.specs.declared.formats.TheConstants.{CATEGORY_BYTES, MAX_CATEGORY}
use Rattle.rm_types.specs.declared.numbers.TheConstants.{BLOCK_PAGES}

-- the bytes of a page's use within each category of the inventory
abbrev pub category_bytes : Format → ℕ
category_bytes One = CATEGORY_BYTES

-- the greatest category that the inventory has for a page
abbrev pub greatest_category : Format → ℕ
greatest_category One = MAX_CATEGORY

-- how many blocks of the inventory describe this many pages
abbrev pub blocks_of : ℕ → ℕ
blocks_of pages = (pages + BLOCK_PAGES - 1) / BLOCK_PAGES
