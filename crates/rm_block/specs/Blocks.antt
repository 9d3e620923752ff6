-- What a block of the areas Data and Space stands for.
use Rattle.std.specs.Prelude.{◌≡◌, ◌≢◌, ℕ, ◌+◌, ◌*◌, ◌/◌, ◌%◌, ◌^◌, ◌≤◌, ◌<◌, List, length, ◌⊎◌}
use Rattle.std.specs.Int.{w16, w64, to_be_bytes}
use Rattle.rm_types.specs.declared.formats.Format.{Format}
use Rattle.rm_types.specs.declared.formats.Format.TheVariants.{One}
use Rattle.rm_types.specs.declared.numbers.TheConstants.{BLOCK_SIZE, BLOCK_PAGES, MAX_SLOT}
use Rattle.rm_types.specs.declared.rows.TheConstants.{MAX_ROW}
use Rattle.rm_types.specs.declared.slots.Slot.{Slot}
use Rattle.rm_types.specs.declared.slots.Slot.TheVariants.{Vacant, Row}
use Rattle.rm_types.specs.declared.slots.TheConstants.{SLOT_ENTRY}
use Rattle.rm_types.specs.Formats.{greatest_category, blocks_of}
use Rattle.rm_model.specs.Pages.{slot_at}
use Rattle.rm_outside.specs.Images.{Bytes, Shows}
use Rattle.rm_block.specs.declared.TheConstants.{LSN_AT, COUNT_AT, SLOTS_AT, FORM_AT, ENTRIES_AT, ENTRIES_IN_BYTE}

-- where the block with this number begins, in area Data, Space or Copy
abbrev pub block_at : ℕ → ℕ
block_at number = BLOCK_SIZE * number

-- ---- the block of a page

-- where the entry of a slot stands in its block: an offset in two bytes, and a length in two
abbrev pub slot_entry_at : ℕ → ℕ
slot_entry_at number = SLOTS_AT + SLOT_ENTRY * number

-- the row begins there: after the directory of `count` slots, and inside the block
pub record IsRowAt (count at : ℕ) (row : List ℕ) : Type 0 where
  pub after : slot_entry_at count ≤ at
  pub short : length row ≤ MAX_ROW
  pub inside : at + length row ≤ BLOCK_SIZE

-- one of `count` slots, as it stands in the block that begins at this offset: without a row both numbers are 0
abbrev pub HasSlot : Bytes → ℕ → ℕ → ℕ → Slot → ℕ → Type 0
HasSlot area block count number Vacant at =
    (at ≡ 0) × Shows area (block + slot_entry_at number) (to_be_bytes w16 0)
    × Shows area (block + slot_entry_at number + 2) (to_be_bytes w16 0)
HasSlot area block count number (Row row) at =
    (at ≢ 0) × IsRowAt count at row × Shows area (block + slot_entry_at number) (to_be_bytes w16 at)
    × Shows area (block + slot_entry_at number + 2) (to_be_bytes w16 (length row)) × Shows area (block + at) row

-- two rows that are not empty have no byte in common
abbrev pub AreApart : ℕ → Slot → ℕ → Slot → Type 0
AreApart a (Row first) b (Row second) =
    (length first ≡ 0) ⊎ ((length second ≡ 0) ⊎ ((a + length first ≤ b) ⊎ (b + length second ≤ a)))
AreApart a Vacant b other = Unit {0}
AreApart a (Row first) b Vacant = Unit {0}

-- The block at this offset of the area stands for the LSN and the slots: some placing of the rows is there.
pub record IsDataBlock (area : Bytes) (block lsn : ℕ) (slots : List Slot) : Type 0 where
  pub version : Shows area (block + LSN_AT) (to_be_bytes w64 lsn)
  pub count : Shows area (block + COUNT_AT) (to_be_bytes w16 (length slots))
  pub few : length slots ≤ MAX_SLOT + 1
  pub places : ℕ → ℕ
  pub each : (number : ℕ) → number < length slots
      → HasSlot area block (length slots) number (slot_at slots number) (places number)
  pub apart : (a b : ℕ) → a < b → b < length slots → AreApart (places a) (slot_at slots a) (places b) (slot_at slots b)

-- ---- a block of the inventory

-- the byte of an inventory block that says its format
abbrev pub form_of : Format → ℕ
form_of One = 0

-- how many entries of an inventory block stand in a byte
abbrev pub entries_in_byte : Format → ℕ
entries_in_byte One = ENTRIES_IN_BYTE

-- the entry with this index in a byte of several
abbrev pub entry_in : Format → ℕ → ℕ → ℕ
entry_in format byte index = (byte / (greatest_category format + 1) ^ index) % (greatest_category format + 1)

-- the block at this offset of the area stands for the LSN and the categories of its pages
pub record IsInventoryBlock (format : Format) (area : Bytes) (block lsn : ℕ) (entries : ℕ → ℕ) : Type 0 where
  pub version : Shows area (block + LSN_AT) (to_be_bytes w64 lsn)
  pub form : area (block + FORM_AT) ≡ form_of format
  pub each : (index : ℕ) → index < BLOCK_PAGES
      → entry_in format (area (block + ENTRIES_AT + index / entries_in_byte format)) (index % entries_in_byte format)
      ≡ entries index

-- The place in area Space of a block of the inventory, as the number of a block. A checkpoint lists the block under this number.
abbrev pub space_place : Format → ℕ → ℕ
space_place One block = block

-- the number is the place of a block of the inventory of a file with this many pages
pub record IsSpacePlace (format : Format) (pages number : ℕ) : Type 0 where
  pub block : ℕ
  pub in_file : block < blocks_of pages
  pub place : number ≡ space_place format block
