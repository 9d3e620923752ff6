-- What a page stands for.
use Rattle.std.specs.Prelude.{ℕ, ◌+◌, ◌-◌, ◌*◌, List, ◌∷◌, ◌++◌, length, take, drop, replicate, sum_by, Option, Some, None, slice_index_or}
use Rattle.rm_types.specs.declared.numbers.Lsn.{Lsn}
use Rattle.rm_types.specs.declared.slots.Slot.{Slot}
use Rattle.rm_types.specs.declared.slots.Slot.TheVariants.{Vacant, Row}
use Rattle.rm_types.specs.declared.slots.TheConstants.{SLOT_ENTRY}

-- a page: the LSN of the last record applied to it, and its directory in order
pub record PageValue : Type 0 where
  pub lsn : Lsn
  pub slots : List Slot

-- the row in a slot, if it has one
abbrev pub row_of : Slot → Option (List ℕ)
row_of Vacant = None
row_of (Row bytes) = Some bytes

-- how many bytes a slot's row takes
abbrev pub row_length : Slot → ℕ
row_length Vacant = 0
row_length (Row bytes) = length bytes

-- the bytes of a page that are in use: those of the directory, and those of the rows
abbrev pub used : List Slot → ℕ
used slots = SLOT_ENTRY * length slots + sum_by row_length slots

-- what a slot holds: nothing past the directory
abbrev pub slot_at : List Slot → ℕ → Slot
slot_at slots number = slice_index_or slots number Vacant

-- the row at a slot number: none where the slot is vacant or past the directory
abbrev pub row_at : List Slot → ℕ → Option (List ℕ)
row_at slots number = row_of (slot_at slots number)

-- the slots with one of them set; setting past the end adds vacant slots before it
abbrev pub set_slot : List Slot → ℕ → Slot → List Slot
set_slot slots number slot = take number slots ++ (replicate (number - length slots) Vacant ++ slot ∷ drop (number + 1) slots)
