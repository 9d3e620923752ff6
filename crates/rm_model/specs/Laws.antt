-- What holds of all pages.
use Rattle.std.specs.Prelude.{◌≡◌, ℕ, ◌+◌, ◌==◌, if◌then◌else◌, List, length, max}
use Rattle.rm_types.specs.declared.slots.Slot.{Slot}
use Rattle.rm_model.specs.Pages.{row_of, row_at, set_slot}

-- setting a slot changes that slot and no other, and adds slots only up to it
pub record SetsOneSlot : Type 0 where
  pub rows : (slots : List Slot) (number at : ℕ) (slot : Slot) → row_at (set_slot slots number slot) at ≡ (if at == number then row_of slot else row_at slots at)
  pub count : (slots : List Slot) (number : ℕ) (slot : Slot) → length (set_slot slots number slot) ≡ max (length slots) (number + 1)
