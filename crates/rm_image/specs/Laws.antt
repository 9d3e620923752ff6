-- What holds of all blocks, and of redo.
use Rattle.std.specs.Prelude.{◌≡◌, ℕ, ◌+◌, ◌*◌, ◌≤◌, ◌<◌, List, ◌↔◌}
use Rattle.rm_types.specs.declared.slots.Slot.{Slot}
use Rattle.rm_types.specs.declared.numbers.TheConstants.{BLOCK_PAGES}
use Rattle.rm_history.specs.Logs.{Batch}
use Rattle.rm_history.specs.Batched.{batch_of}
use Rattle.rm_history.specs.Acts.{History}
use Rattle.rm_history.specs.Contents.{page_of, version_of, entry_of, block_version_of}
use Rattle.rm_history.specs.Rules.{IsInOrder}
use Rattle.rm_image.specs.Standing.{StandsFor, EntriesStandFor}
use Rattle.rm_image.specs.Prefixes.{HasPrefix, HasEntriesOfPrefix}
use Rattle.rm_image.specs.Redo.{EntriesBlock, page_redone, entries_redone}

-- a record that comes later has a gate that is not before
abbrev pub Rise : (ℕ → ℕ) → Type 0
Rise gates = (a b : ℕ) → a ≤ b → gates a ≤ gates b

-- The two ways of saying what a block lacks are one, where the gates of records rise with their LSNs.
abbrev pub BlocksHavePrefixes : Type 0
BlocksHavePrefixes = (gates : ℕ → ℕ) (history : History) (page version : ℕ) (slots : List Slot) (redo : ℕ)
    → IsInOrder history → Rise gates
    → StandsFor gates history page version slots redo ↔ HasPrefix gates history page version slots redo

abbrev pub InventoryBlocksHavePrefixes : Type 0
InventoryBlocksHavePrefixes = (gates : ℕ → ℕ) (history : History) (block version : ℕ) (entries : ℕ → ℕ) (redo : ℕ)
    → IsInOrder history → Rise gates
    → EntriesStandFor gates history block version entries redo ↔ HasEntriesOfPrefix gates history block version entries redo

-- as the gates of a log's batches do
abbrev pub GatesRise : Type 0
GatesRise = (batches : List Batch) → Rise (batch_of batches)

-- What redo makes of a block that stands for a log, from its redo offset on or from before it, is what the log says.
abbrev pub RedoBringsPagesUp : Type 0
RedoBringsPagesUp = (gates : ℕ → ℕ) (history : History) (page version : ℕ) (slots : List Slot) (redo from : ℕ)
    → IsInOrder history → from ≤ redo → StandsFor gates history page version slots redo
    → page_redone gates from page history (record { version = version; slots = slots })
    ≡ record { version = version_of history page; slots = page_of history page }

-- So it is with a block of the inventory.
pub record IsUp (history : History) (number : ℕ) (block : EntriesBlock) : Type 0 where
  pub version_is : block.version ≡ block_version_of history number
  pub entries_are : (index : ℕ) → index < BLOCK_PAGES → block.entries index ≡ entry_of history (BLOCK_PAGES * number + index)

abbrev pub RedoBringsEntriesUp : Type 0
RedoBringsEntriesUp = (gates : ℕ → ℕ) (history : History) (number version : ℕ) (entries : ℕ → ℕ) (redo from : ℕ)
    → IsInOrder history → from ≤ redo → EntriesStandFor gates history number version entries redo
    → IsUp history number (entries_redone gates from number history (record { version = version; entries = entries }))
