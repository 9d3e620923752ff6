-- Which copies the file can be restored from.
use Rattle.std.specs.Prelude.{◌≡◌, ℕ, ◌+◌, ◌-◌, ◌*◌, ◌≤◌, ◌<◌, List, ◌⊎◌}
use Rattle.std.specs.List.{AllByRecursion}
use Rattle.rm_types.specs.declared.formats.Format.{Format}
use Rattle.rm_types.specs.Formats.{blocks_of}
use Rattle.rm_outside.specs.Images.{Bytes}
use Rattle.rm_master.specs.declared.fields.Fields.{Fields}
use Rattle.rm_history.specs.Logs.{Batch}
use Rattle.rm_history.specs.Batched.{acts_of_batches, IsGate, IsBelow, size_after}
use Rattle.rm_image.specs.declared.TheConstants.{HALF_BLOCKS, COPIED_SPACE}
use Rattle.rm_image.specs.Starts.{Start, format_of, records_before}
use Rattle.rm_image.specs.Having.{HasPage, HasEntries}

-- where a half of area Copy has the copy of a page's block, and of a block of the inventory, as numbers of blocks
abbrev pub copied_page : ℕ → ℕ → ℕ
copied_page half page = (half - 1) * HALF_BLOCKS + page

abbrev pub copied_block : ℕ → ℕ → ℕ
copied_block half block = (half - 1) * HALF_BLOCKS + (COPIED_SPACE + block)

-- A half is a copy of n pages, from this start on: each of its blocks lacks no record of a batch from before the start, and no
-- record from before it names another page.
pub record IsCopy (area : Bytes) (format : Format) (batches : List Batch) (half start n : ℕ) : Type 0 where
  pub gate : IsGate batches start
  pub pages : (page : ℕ) → page < n → HasPage area batches (copied_page half page) page start
  pub blocks : (block : ℕ) → block < blocks_of n → HasEntries format area batches (copied_block half block) block start
  pub below : AllByRecursion (IsBelow n) (records_before start (acts_of_batches batches))

-- the half that the master names is a copy of the file, which has all pages that the file had at its start
pub record IsCopyOfFile (area : Bytes) (start : Start) (fields : Fields) (batches : List Batch) : Type 0 where
  pub covers : size_after start.pages (records_before fields.start (acts_of_batches batches)) ≤ fields.copied
  pub copy : IsCopy area (format_of start batches) batches fields.half fields.start fields.copied

-- the master names no half, or one that is
abbrev pub IsCopySound : Bytes → Start → Fields → List Batch → Type 0
IsCopySound area start fields batches = (fields.half ≡ 0) ⊎ IsCopyOfFile area start fields batches
