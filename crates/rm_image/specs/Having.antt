-- A block of an area that has a page, or a part of the inventory, as a log's batches say.
use Rattle.std.specs.Prelude.{ℕ, List}
use Rattle.rm_types.specs.declared.formats.Format.{Format}
use Rattle.rm_types.specs.declared.slots.Slot.{Slot}
use Rattle.rm_outside.specs.Images.{Bytes}
use Rattle.rm_history.specs.Logs.{Batch}
use Rattle.rm_history.specs.Batched.{acts_of_batches, batch_of}
use Rattle.rm_block.specs.Blocks.{block_at, IsDataBlock, IsInventoryBlock}
use Rattle.rm_image.specs.Standing.{StandsFor, EntriesStandFor}

-- the block with this number has the page, and lacks no record of a batch from before the redo offset
pub record HasPage (area : Bytes) (batches : List Batch) (number page redo : ℕ) : Type 0 where
  pub version : ℕ
  pub slots : List Slot
  pub block : IsDataBlock area (block_at number) version slots
  pub stands : StandsFor (batch_of batches) (acts_of_batches batches) page version slots redo

-- so it is with a block of the inventory
pub record HasEntries (format : Format) (area : Bytes) (batches : List Batch) (number block redo : ℕ) : Type 0 where
  pub version : ℕ
  pub entries : ℕ → ℕ
  pub is_block : IsInventoryBlock format area (block_at number) version entries
  pub stands : EntriesStandFor (batch_of batches) (acts_of_batches batches) block version entries redo
