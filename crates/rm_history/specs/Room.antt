-- Which row has room on which page, and in which slot it is put.
use Rattle.std.specs.Prelude.{◌≡◌, ℕ, ◌+◌, ◌-◌, ◌*◌, ◌≤◌, ◌<◌, ◌==◌, if◌then◌else◌, List, max, length}
use Rattle.rm_types.specs.declared.slots.Slot.{Slot}
use Rattle.rm_types.specs.declared.slots.Slot.TheVariants.{Vacant}
use Rattle.rm_types.specs.declared.slots.TheConstants.{CAPACITY, SLOT_ENTRY}
use Rattle.rm_model.specs.Pages.{used, slot_at}
use Rattle.rm_model.specs.Sums.{sum_below}
use Rattle.rm_history.specs.Acts.{History}
use Rattle.rm_history.specs.Contents.{page_of}
use Rattle.rm_history.specs.Transactions.{greatest_txn}
use Rattle.rm_history.specs.Needs.{need_of}

-- what the undo of all other transactions needs on the page
abbrev pub others_need : History → ℕ → ℕ → ℕ
others_need history txn page = sum_below (λ other. if other == txn then 0 else need_of history other page) (greatest_txn history + 1)

-- the bytes of the page that neither its slots have nor the others' undo needs
abbrev pub unreserved : History → ℕ → ℕ → ℕ
unreserved history txn page = CAPACITY - (used (page_of history page) + others_need history txn page)

-- The slot for a new row: the least that is vacant or past the directory, and that is not held by another transaction's lock.
pub record IsSlotForRow (IsHeld : ℕ → Type 0) (slots : List Slot) (number : ℕ) : Type 0 where
  pub vacant : slot_at slots number ≡ Vacant
  pub free : IsHeld number → ⊥
  pub least : (lower : ℕ) → lower < number → slot_at slots lower ≡ Vacant → (IsHeld lower → ⊥) → ⊥

-- the bytes by which a directory with this many slots grows for a slot with this number
abbrev pub growth_for : ℕ → ℕ → ℕ
growth_for slots number = SLOT_ENTRY * ((number + 1) - slots)

-- A row of `len` bytes fits into a slot, beside what the others' undo needs, and with room for the transaction's own;
-- so does a row that grows by `growth` bytes.
abbrev pub RowFits : History → ℕ → ℕ → ℕ → ℕ → Type 0
RowFits history txn page number len =
    used (page_of history page) + growth_for (length (page_of history page)) number
    + others_need history txn page + max len (need_of history txn page) ≤ CAPACITY

abbrev pub GrowthFits : History → ℕ → ℕ → ℕ → Type 0
GrowthFits history txn page growth = used (page_of history page) + others_need history txn page + max growth (need_of history txn page) ≤ CAPACITY
