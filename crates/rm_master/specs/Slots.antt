-- The master as it stands in its area.
use Rattle.std.specs.Prelude.{◌≡◌, ◌≢◌, ℕ, ◌+◌, ◌*◌, ◌%◌, ◌⊎◌}
use Rattle.rm_types.specs.declared.areas.Area.TheVariants.{Master}
use Rattle.rm_outside.specs.Images.{Bytes, Image, KeepsOthers, Shows}
use Rattle.rm_master.specs.declared.fields.TheConstants.{MADE, MADE_AT, PARITY_AT, SLOTS_AT, SLOT_ROOM}
use Rattle.rm_master.specs.declared.fields.Fields.{Fields}
use Rattle.rm_master.specs.Fields.{IsFields, slot_bytes}

-- where the slot of this number begins
abbrev pub slot_at : ℕ → ℕ
slot_at slot = SLOTS_AT + SLOT_ROOM * slot

-- the number of the current slot
abbrev pub current : Bytes → ℕ
current area = area PARITY_AT % 2

-- the current slot has these fields
pub record HasSlot (area : Bytes) (fields : Fields) : Type 0 where
  pub rules : IsFields fields
  pub slot : Shows area (slot_at (current area)) (slot_bytes fields)

-- the volume is made, and its current slot has these fields
pub record HasFields (area : Bytes) (fields : Fields) : Type 0 where
  pub made : area MADE_AT ≡ MADE
  pub rules : IsFields fields
  pub slot : Shows area (slot_at (current area)) (slot_bytes fields)

-- no fields stand at this place
abbrev pub HasNoFields : Bytes → ℕ → Type 0
HasNoFields area at = (fields : Fields) → IsFields fields → Shows area at (slot_bytes fields) → ⊥

-- the volume is made, and its current slot, at this place, has no fields
pub record IsDamagedAt (area : Bytes) (at : ℕ) : Type 0 where
  pub made : area MADE_AT ≡ MADE
  pub place : at ≡ slot_at (current area)
  pub none : HasNoFields area at

-- the volume is made
abbrev pub IsMade : Image → Type 0
IsMade c = c Master MADE_AT ≡ MADE

-- the volume is not made
abbrev pub IsUnmade : Image → Type 0
IsUnmade c = c Master MADE_AT ≢ MADE

-- the master has these fields, in the slot of this number
pub record Stands (slot : ℕ) (fields : Fields) (area : Bytes) : Type 0 where
  pub is_current : current area ≡ slot
  pub has : HasFields area fields

-- the other areas stay, and the master has its old fields or the next ones
pub record GoesTo (fields next : Fields) (old new : Image) : Type 0 where
  pub others : KeepsOthers Master old new
  pub master : HasFields (new Master) fields ⊎ HasFields (new Master) next
