-- What holds of all blocks.
use Rattle.std.specs.Prelude.{◌≡◌, ℕ, ◌+◌, ◌^◌, ◌≤◌, ◌<◌, List, []}
use Rattle.rm_types.specs.declared.formats.Format.{Format}
use Rattle.rm_types.specs.declared.numbers.TheConstants.{BLOCK_SIZE, BLOCK_PAGES}
use Rattle.rm_types.specs.declared.slots.Slot.{Slot}
use Rattle.rm_outside.specs.Images.{Bytes}
use Rattle.rm_types.specs.declared.formats.Format.TheVariants.{One}
use Rattle.rm_block.specs.Blocks.{IsDataBlock, IsInventoryBlock}

-- a block stands for one LSN and one list of slots
abbrev pub DataBlocksAreOne : Type 0
DataBlocksAreOne = (area : Bytes) (block lsn other : ℕ) (slots others : List Slot) → lsn < 2 ^ 64 → other < 2 ^ 64
    → IsDataBlock area block lsn slots → IsDataBlock area block other others → (lsn ≡ other) × (slots ≡ others)

-- so does a block of the inventory for its categories
abbrev pub InventoryBlocksAreOne : Type 0
InventoryBlocksAreOne =
    (format : Format) (area : Bytes) (block lsn other : ℕ) (entries others : ℕ → ℕ) → lsn < 2 ^ 64 → other < 2 ^ 64
    → IsInventoryBlock format area block lsn entries → IsInventoryBlock format area block other others
    → (lsn ≡ other) × ((index : ℕ) → index < BLOCK_PAGES → entries index ≡ others index)

-- the block at this offset is zeros
pub record IsZeroBlock (area : Bytes) (block : ℕ) : Type 0 where
  pub each : (at : ℕ) → block ≤ at → at < block + BLOCK_SIZE → area at ≡ 0

-- a block of zeros has no record
pub record ZerosAreEmpty : Type 0 where
  pub page : (area : Bytes) (block : ℕ) → IsZeroBlock area block → IsDataBlock area block 0 []
  pub entries : (area : Bytes) (block : ℕ) → IsZeroBlock area block → IsInventoryBlock One area block 0 (λ index. 0)
