-- The directory of a page in memory: its memory, and its least vacant slot.
use Rattle.std.specs.Prelude.{◌≡◌, ℕ, ◌+◌, ◌-◌, ◌*◌, ◌/◌, ◌<◌, ◌≤◌, List, length, max, None, IsSome}
use Rattle.rm_types.specs.declared.slots.Slot.{Slot}
use Rattle.rm_types.specs.declared.slots.TheConstants.{CAPACITY}
use Rattle.rm_model.specs.Pages.{used, row_at}
use Rattle.rm_page.specs.declared.directory.TheConstants.{DIRECTORY_STEP}

-- so many slots, in whole steps: a directory has memory for these
abbrev pub whole_steps : ℕ → ℕ
whole_steps slots = DIRECTORY_STEP * ((slots + DIRECTORY_STEP - 1) / DIRECTORY_STEP)

-- a row put into the slot takes no memory for the directory: the page has it, or the spare memory is enough
abbrev pub IsReady : List Slot → ℕ → ℕ → Type 0
IsReady slots number spare = whole_steps (number + 1) ≤ max (whole_steps (length slots)) spare

-- the least slot number, from this one on, that is vacant or past the end
pub record IsLeastVacant (slots : List Slot) (start number : ℕ) : Type 0 where
  pub from : start ≤ number
  pub vacant : row_at slots number ≡ None
  pub least : (other : ℕ) → start ≤ other → other < number → IsSome (row_at slots other)

-- what a page keeps beside its slots: its used bytes, its least vacant slot, and memory for its directory
pub record IsKept (slots : List Slot) (bytes vacant capacity : ℕ) : Type 0 where
  pub counted : bytes ≡ used slots
  pub fits : used slots ≤ CAPACITY
  pub least : IsLeastVacant slots 0 vacant
  pub memory : whole_steps (length slots) ≤ capacity
