-- A volume that was just made.
use Rattle.std.specs.Prelude.{◌≡◌, ◌≢◌, ℕ, ◌*◌, ◌<◌}
use Rattle.rm_types.specs.declared.areas.Area.TheVariants.{Master, Log, Data, Space}
use Rattle.rm_outside.specs.Images.{Bytes, Image}
use Rattle.rm_types.specs.declared.numbers.TheConstants.{BLOCK_SIZE}
use Rattle.rm_types.specs.Formats.{blocks_of}
use Rattle.rm_master.specs.Fields.{fresh_fields}
use Rattle.rm_master.specs.Slots.{HasSlot, HasFields}

-- the bytes below this offset are zeros
pub record IsZeroBelow (area : Bytes) (len : ℕ) : Type 0 where
  pub each : (k : ℕ) → k < len → area k ≡ 0

-- the log begins with a closed gate, and the blocks of Data and Space are zeros
pub record IsCleared (pages : ℕ) (c : Image) : Type 0 where
  pub gate : c Log 0 ≢ 1
  pub data_blocks : IsZeroBelow (c Data) (BLOCK_SIZE * pages)
  pub space : IsZeroBelow (c Space) (BLOCK_SIZE * blocks_of pages)

-- a volume of this many pages that was just made
pub record IsFresh (pages : ℕ) (c : Image) : Type 0 where
  pub fields : HasFields (c Master) (fresh_fields pages)
  pub cleared : IsCleared pages c

-- the same, but for the made byte
pub record IsReady (pages : ℕ) (c : Image) : Type 0 where
  pub slot : HasSlot (c Master) (fresh_fields pages)
  pub cleared : IsCleared pages c
