-- What a block stands for, said of the prefix of the log that it has. It is the same (Laws).
use Rattle.std.specs.Prelude.{◌≡◌, ℕ, ◌≤◌, ◌++◌, List}
use Rattle.std.specs.List.{AllByRecursion}
use Rattle.rm_types.specs.declared.slots.Slot.{Slot}
use Rattle.rm_history.specs.Acts.{History, lsn_of}
use Rattle.rm_image.specs.Standing.{HoldsPage, HoldsEntries}

-- A block holds what a prefix of the log says of it, and the prefix lacks no record of a batch from before the redo offset.
pub record Prefix (Holds : History → Type 0) (gates : ℕ → ℕ) (redo : ℕ) (history : History) : Type 0 where
  pub newer : History
  pub before : History
  pub split : history ≡ newer ++ before
  pub holds : Holds before
  pub lacks_none : AllByRecursion (λ act. redo ≤ gates (lsn_of act)) newer

-- so a page's block has a prefix, and a block of the inventory
abbrev pub HasPrefix : (ℕ → ℕ) → History → ℕ → ℕ → List Slot → ℕ → Type 0
HasPrefix gates history page version slots redo = Prefix (HoldsPage page version slots) gates redo history

abbrev pub HasEntriesOfPrefix : (ℕ → ℕ) → History → ℕ → ℕ → (ℕ → ℕ) → ℕ → Type 0
HasEntriesOfPrefix gates history block version entries redo = Prefix (HoldsEntries block version entries) gates redo history
