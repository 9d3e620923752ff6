-- Which checkpoint the master names, and from where on restart repeats the log.
use Rattle.std.specs.Prelude.{◌≡◌, ℕ, ◌≤◌, ◌<◌, ◌==◌, if◌then◌else◌, List, [], ◌∷◌, min, false, true, Option, Some, None, ◌⊎◌}
use Rattle.rm_types.specs.declared.places.Place.{Place}
use Rattle.rm_master.specs.declared.fields.Fields.{Fields}
use Rattle.rm_history.specs.Logs.{Batch}
use Rattle.rm_history.specs.Acts.{Listing, Mark, History, lists, changes, undoes, enters, commits, ends, marks}
use Rattle.rm_history.specs.Contents.{format_after}
use Rattle.rm_history.specs.Rules.{IsIn}
use Rattle.rm_history.specs.Batched.{acts_of_batches, IsGate, batch_of}
use Rattle.rm_block.specs.Blocks.{IsSpacePlace}
use Rattle.rm_image.specs.Starts.{Start, before_checkpoint}

-- the record is this checkpoint
abbrev pub IsListing : Mark → Listing → Type 0
IsListing (lists l) listing = l ≡ listing

-- the history has this checkpoint
abbrev pub HasListing : History → Listing → Type 0
HasListing [] listing = ⊥
HasListing (changes c ∷ before) listing = HasListing before listing
HasListing (undoes u ∷ before) listing = HasListing before listing
HasListing (enters e ∷ before) listing = HasListing before listing
HasListing (commits f ∷ before) listing = HasListing before listing
HasListing (ends f ∷ before) listing = HasListing before listing
HasListing (marks m ∷ before) listing = IsListing m listing ⊎ HasListing before listing

-- the master names this checkpoint of the log, in its batch
pub record NamesListing (fields : Fields) (batches : List Batch) (listing : Listing) : Type 0 where
  pub is_there : HasListing (acts_of_batches batches) listing
  pub lsn_is : listing.lsn ≡ fields.checkpoint
  pub batch_is : batch_of batches listing.lsn ≡ fields.batch

-- the master names this checkpoint, or none
abbrev pub HasCheckpoint : Fields → List Batch → Option Listing → Type 0
HasCheckpoint fields batches None = fields.checkpoint ≡ 0
HasCheckpoint fields batches (Some listing) = NamesListing fields batches listing

-- the blocks of pages that it lists, and those of the inventory
abbrev pub listed_pages : Option Listing → List Place
listed_pages None = []
listed_pages (Some listing) = listing.pages

abbrev pub listed_blocks : Option Listing → List Place
listed_blocks None = []
listed_blocks (Some listing) = listing.blocks

-- each place is of a block of the file, with the gate of a batch that is not after this one
abbrev pub AreGates : List Batch → ℕ → (ℕ → Type 0) → List Place → Type 0
AreGates batches batch IsOfFile places =
    (place : Place) → IsIn places place → IsOfFile place.number × IsGate batches place.at × (place.at ≤ batch)

-- The checkpoint is sound: there is one of the log, where the master names one, and it lists gates for blocks of the file as
-- it was there.
pub record IsCheckpointSound (start : Start) (fields : Fields) (batches : List Batch) : Type 0 where
  pub named : Option Listing
  pub has : HasCheckpoint fields batches named
  pub pages : AreGates batches fields.batch (λ number. number < fields.pages) (listed_pages named)
  pub blocks :
      AreGates batches fields.batch (IsSpacePlace (format_after start.format (before_checkpoint fields batches)) fields.pages) (listed_blocks named)

-- where a list of places has the number, its offset, and else the other one
abbrev pub place_or : List Place → ℕ → ℕ → ℕ
place_or [] number other = other
place_or (first ∷ places) number other = if first.number == number then first.at else place_or places number other

-- The redo offset of a block is the one that the checkpoint lists for it, or else the batch's gate: of a page's block by the
-- page's number, and of a block of the inventory by its place in area Space.
abbrev pub IsRedoOffset : (Option Listing → List Place) → Fields → List Batch → ℕ → ℕ → Type 0
IsRedoOffset listed fields batches number redo =
    (named : Option Listing) × HasCheckpoint fields batches named × (redo ≡ place_or (listed named) number fields.batch)

abbrev pub IsRedoOfPage : Fields → List Batch → ℕ → ℕ → Type 0
IsRedoOfPage = IsRedoOffset listed_pages

abbrev pub IsRedoOfBlock : Fields → List Batch → ℕ → ℕ → Type 0
IsRedoOfBlock = IsRedoOffset listed_blocks

-- the least of the offsets of these places and of one more
abbrev pub least_of : List Place → ℕ → ℕ
least_of [] other = other
least_of (first ∷ places) other = min first.at (least_of places other)

-- The redo point, from where on restart repeats the log: the least of all redo offsets, or the copy's start while the file is
-- being restored. (What restart has to know of transactions it reads from the checkpoint's batch on, then too.)
abbrev pub IsRedoPoint : Fields → List Batch → ℕ → Type 0
IsRedoPoint fields batches point =
    ((fields.restoring ≡ true) × (point ≡ fields.start))
    ⊎ ((fields.restoring ≡ false) × ((named : Option Listing) × HasCheckpoint fields batches named
    × (point ≡ least_of (listed_pages named) (least_of (listed_blocks named) fields.batch))))
