-- A block of the inventory.
use Rattle.std.specs.Prelude.{◌≡◌, ℕ, ◌≤◌, List, length, slice_index}
use Rattle.rm_types.specs.declared.formats.Format.{Format}
use Rattle.rm_types.specs.declared.formats.TheConstants.{MAX_CATEGORY}
use Rattle.rm_types.specs.declared.numbers.Lsn.{Lsn}
use Rattle.rm_types.specs.declared.numbers.TheConstants.{BLOCK_PAGES}
use Rattle.rm_model.specs.Categories.{IsExcluded}

-- a block: the LSN of the last record applied to it, and the entries of its pages in order
pub record InventoryValue : Type 0 where
  pub lsn : Lsn
  pub entries : List ℕ

-- there is one for each page, and each is a category
pub record AreEntries (entries : List ℕ) : Type 0 where
  pub count : length entries ≡ BLOCK_PAGES
  pub categories : (index : ℕ) → slice_index entries index ≤ MAX_CATEGORY

-- by its entry the page with this index is not looked at for a row of `len` bytes
abbrev pub Excludes : InventoryValue → Format → ℕ → ℕ → Type 0
Excludes inventory format len index = IsExcluded format (slice_index inventory.entries index) len
