-- A block of zeros has no record.
use Rattle.std.proofs.Common.{◌≡◌, ℕ, ◌+◌, ◌/◌, ◌%◌, ◌^◌, ◌≤◌, ◌<◌, [], replicate, refl, sym, ◌∙◌, arith}
use Rattle.std.proofs.Math.Nat.{div-le_self}
use Rattle.std.proofs.lemmas.List.{length-replicate, get_or-replicate}
use Rattle.rm_types.specs.declared.formats.Format.TheVariants.{One}
use Rattle.rm_types.specs.declared.numbers.TheConstants.{BLOCK_SIZE}
use Rattle.rm_outside.specs.Images.{Bytes, Shows}
use Rattle.rm_block.specs.declared.TheConstants.{LSN_AT, COUNT_AT, FORM_AT, ENTRIES_AT, ENTRIES_IN_BYTE}
use Rattle.rm_block.specs.Blocks.{IsDataBlock, IsInventoryBlock, entry_in}
use Rattle.rm_block.specs.Laws.{IsZeroBlock, ZerosAreEmpty}

-- no entry is in a byte of 0
no_entry : (index : ℕ) → entry_in One 0 index ≡ 0
no_entry index =
    let none : 0 / 4 ^ index ≡ 0 = omega (arith, div-le_self 0 (4 ^ index)) in
    rw none refl

module _ (area : Bytes) (block : ℕ) (zero : IsZeroBlock area block) where
  -- the block shows zeros
  shows_zeros : (at count : ℕ) → at + count ≤ BLOCK_SIZE → Shows area (block + at) (replicate count 0)
  shows_zeros at count inside = record {
    each = λ k below.
        let within : k < count = omega (arith, below, length-replicate {A = ℕ} count 0) in
        zero.each (block + at + k) (omega arith) (omega arith) ∙ sym (get_or-replicate count k 0 0 within);
  }

  zeros_are_page : IsDataBlock area block 0 []
  zeros_are_page = record {
    version = shows_zeros LSN_AT 8 (omega arith);
    count = shows_zeros COUNT_AT 2 (omega arith);
    few = omega arith;
    places = λ number. 0;
    each = λ number below. absurd (omega (arith, below));
    apart = λ a b a_first below. absurd (omega (arith, below));
  }

  zeros_are_entries : IsInventoryBlock One area block 0 (λ index. 0)
  zeros_are_entries = record {
    version = shows_zeros LSN_AT 8 (omega arith);
    form = zero.each (block + FORM_AT) (omega arith) (omega arith);
    each = λ index below.
        let byte : area (block + ENTRIES_AT + index / ENTRIES_IN_BYTE) ≡ 0 = zero.each _ (omega arith) (omega (arith, below)) in
        rw byte (no_entry (index % ENTRIES_IN_BYTE));
  }

-- a block of zeros is a page's without slots, and one of the inventory with categories of 0
pub zeros_are_empty : ZerosAreEmpty
zeros_are_empty = record { page = zeros_are_page; entries = zeros_are_entries }
