-- A block stands for one LSN, and for one list of slots or one category for each page.
use Rattle.std.proofs.Common.{◌≡◌, ℕ, ◌+◌, ◌^◌, ◌<◌, List, length, refl, sym, ap, ◌∙◌, arith}
use Rattle.std.specs.Int.{w16, w64, to_be_bytes, from_be_bytes}
use Rattle.std.proofs.lemmas.List.{ext_get_or}
use Rattle.std.proofs.lemmas.Nat.{from_be_bytes-to_be_bytes_2, from_be_bytes-to_be_bytes_8}
use Rattle.rm_types.specs.declared.slots.Slot.{Slot}
use Rattle.rm_types.specs.declared.slots.Slot.TheVariants.{Vacant, Row}
use Rattle.rm_model.specs.Pages.{slot_at}
use Rattle.rm_outside.specs.Images.{Bytes, Shows}
use Rattle.rm_outside.proofs.ShowsLemmas.{shows_once}
use Rattle.rm_block.specs.Blocks.{HasSlot, IsDataBlock}
use Rattle.rm_block.specs.Laws.{DataBlocksAreOne, InventoryBlocksAreOne}

module _ (area : Bytes) where
  -- two bytes, and eight, show one number
  pub number_once : (at n m : ℕ) → n < 2 ^ 16 → m < 2 ^ 16 → Shows area at (to_be_bytes w16 n)
      → Shows area at (to_be_bytes w16 m) → n ≡ m
  number_once at n m small other_small shown other_shown =
      sym (from_be_bytes-to_be_bytes_2 n small)
      ∙ ap (from_be_bytes w16) (shows_once (to_be_bytes w16 n) (to_be_bytes w16 m) shown other_shown refl)
      ∙ from_be_bytes-to_be_bytes_2 m other_small

  pub lsn_once : (at n m : ℕ) → n < 2 ^ 64 → m < 2 ^ 64 → Shows area at (to_be_bytes w64 n)
      → Shows area at (to_be_bytes w64 m) → n ≡ m
  lsn_once at n m small other_small shown other_shown =
      sym (from_be_bytes-to_be_bytes_8 n small)
      ∙ ap (from_be_bytes w64) (shows_once (to_be_bytes w64 n) (to_be_bytes w64 m) shown other_shown refl)
      ∙ from_be_bytes-to_be_bytes_8 m other_small

  -- an entry of the directory shows one slot
  pub slot_once : (block count number : ℕ) (slot other : Slot) (at other_at : ℕ)
      → HasSlot area block count number slot at → HasSlot area block count number other other_at → slot ≡ other
  slot_once block count number Vacant Vacant at other_at has other_has = refl
  slot_once block count number Vacant (Row row) at other_at has other_has =
      absurd (other_has.0 (number_once _ other_at 0 (omega (arith, other_has.1.inside)) (omega arith) other_has.2 has.1))
  slot_once block count number (Row row) Vacant at other_at has other_has =
      absurd (has.0 (number_once _ at 0 (omega (arith, has.1.inside)) (omega arith) has.2 other_has.1))
  slot_once block count number (Row row) (Row other) at other_at has other_has =
      let places : at ≡ other_at = number_once _ at other_at (omega (arith, has.1.inside)) (omega (arith, other_has.1.inside)) has.2 other_has.2 in
      let lengths : length row ≡ length other =
      number_once _ (length row) (length other) (omega (arith, has.1.short)) (omega (arith, other_has.1.short)) has.3 other_has.3 in
      let here : Shows area (block + at) other = rw places other_has.4 in
      ap Row (shows_once row other has.4 here lengths)

  -- the same number of slots, each of them the same
  slots_once : (block lsn other : ℕ) (slots others : List Slot) → IsDataBlock area block lsn slots
      → IsDataBlock area block other others → slots ≡ others
  slots_once block lsn other slots others is other_is =
      let count : length slots ≡ length others =
      number_once _ (length slots) (length others) (omega (arith, is.few)) (omega (arith, other_is.few)) is.count other_is.count in
      ext_get_or Vacant slots others count (λ number inside.
      let there : HasSlot area block (length slots) number (slot_at others number) (other_is.places number) = rw count (other_is.each number (omega arith)) in
      slot_once block (length slots) number _ _ (is.places number) (other_is.places number) (is.each number inside) there)

-- a data block has one LSN and one list of slots
pub data_blocks_are_one : DataBlocksAreOne
data_blocks_are_one area block lsn other slots others small other_small is other_is =
    (lsn_once area _ lsn other small other_small is.version other_is.version, slots_once area block lsn other slots others is other_is)

-- a block of the inventory has one LSN, and one category for each page that it describes
pub inventory_blocks_are_one : InventoryBlocksAreOne
inventory_blocks_are_one format area block lsn other entries others small other_small is other_is =
    (lsn_once area _ lsn other small other_small is.version other_is.version, λ index inside. sym (is.each index inside) ∙ other_is.each index inside)
