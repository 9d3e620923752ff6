-- What of a log a block has.
use Rattle.std.specs.Prelude.{◌≡◌, ℕ, ◌+◌, ◌*◌, ◌/◌, ◌≤◌, ◌<◌, List, [], ◌∷◌}
use Rattle.rm_types.specs.declared.numbers.TheConstants.{BLOCK_PAGES}
use Rattle.rm_types.specs.declared.slots.Slot.{Slot}
use Rattle.rm_history.specs.Acts.{Act, History, changes, undoes, enters, commits, ends, marks, lsn_of}
use Rattle.rm_history.specs.Contents.{page_of, version_of, entry_of, block_version_of}

-- the record sets a slot of the page; it enters a category in the block
abbrev pub IsOnPage : ℕ → Act → Type 0
IsOnPage page (changes c) = c.rid.page ≡ page
IsOnPage page (undoes u) = u.rid.page ≡ page
IsOnPage page (enters e) = ⊥
IsOnPage page (commits f) = ⊥
IsOnPage page (ends f) = ⊥
IsOnPage page (marks m) = ⊥

abbrev pub IsInBlock : ℕ → Act → Type 0
IsInBlock block (changes c) = ⊥
IsInBlock block (undoes u) = ⊥
IsInBlock block (enters e) = e.page / BLOCK_PAGES ≡ block
IsInBlock block (commits f) = ⊥
IsInBlock block (ends f) = ⊥
IsInBlock block (marks m) = ⊥

-- a page's block with this version and these slots holds what the history says; so does a block of the inventory with these
-- categories
abbrev pub HoldsPage : ℕ → ℕ → List Slot → History → Type 0
HoldsPage page version slots history = (version ≡ version_of history page) × (slots ≡ page_of history page)

abbrev pub HoldsEntries : ℕ → ℕ → (ℕ → ℕ) → History → Type 0
HoldsEntries block version entries history =
    (version ≡ block_version_of history block)
    × ((index : ℕ) → index < BLOCK_PAGES → entries index ≡ entry_of history (BLOCK_PAGES * block + index))

-- A block with this version holds what a history says of it up to the version, and lacks no record on it from before its redo
-- offset. The gates are those of the records' batches.
abbrev pub Stands : (History → Type 0) → (Act → Type 0) → (ℕ → ℕ) → ℕ → ℕ → History → Type 0
Stands Holds IsOn gates version redo [] = Holds []
Stands Holds IsOn gates version redo (act ∷ before) =
    (lsn_of act ≤ version → Holds (act ∷ before))
    × (version < lsn_of act → (IsOn act → redo ≤ gates (lsn_of act)) × Stands Holds IsOn gates version redo before)

-- so a page's block stands for a history, and a block of the inventory
abbrev pub StandsFor : (ℕ → ℕ) → History → ℕ → ℕ → List Slot → ℕ → Type 0
StandsFor gates history page version slots redo = Stands (HoldsPage page version slots) (IsOnPage page) gates version redo history

abbrev pub EntriesStandFor : (ℕ → ℕ) → History → ℕ → ℕ → (ℕ → ℕ) → ℕ → Type 0
EntriesStandFor gates history block version entries redo =
    Stands (HoldsEntries block version entries) (IsInBlock block) gates version redo history
