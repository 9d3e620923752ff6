-- What holds of all checkpoints and of all images.
use Rattle.std.specs.Prelude.{◌≡◌, ◌≢◌, ℕ, ◌≤◌, ◌<◌, List, [], true, false, Option, ◌↔◌}
use Rattle.std.specs.List.{AllByRecursion}
use Rattle.rm_types.specs.declared.areas.Area.TheVariants.{Master, Log, Data, Space, Copy}
use Rattle.rm_types.specs.declared.formats.Format.{Format}
use Rattle.rm_types.specs.declared.formats.Format.TheVariants.{One}
use Rattle.rm_types.specs.declared.slots.Slot.{Slot}
use Rattle.rm_types.specs.Formats.{blocks_of}
use Rattle.rm_outside.specs.Images.{Bytes, Image}
use Rattle.rm_master.specs.declared.fields.Fields.{Fields}
use Rattle.rm_master.specs.Fields.{IsOfFormat, fresh_fields}
use Rattle.rm_master.specs.Fresh.{IsFresh}
use Rattle.rm_master.specs.Slots.{HasFields}
use Rattle.rm_history.specs.Logs.{Batch, HasLog}
use Rattle.rm_history.specs.Acts.{Act, Listing, History, changes, undoes, enters, commits, ends, marks}
use Rattle.rm_history.specs.Contents.{page_of, version_of}
use Rattle.rm_history.specs.Batched.{acts_of_batches, batch_of, IsGate, AreBelow}
use Rattle.rm_history.specs.Rules.{IsInOrder}
use Rattle.rm_block.specs.Blocks.{block_at, IsDataBlock, IsInventoryBlock, space_place}
use Rattle.rm_image.specs.Starts.{Start, format_of, size_of}
use Rattle.rm_image.specs.Checkpoints.{HasCheckpoint, IsRedoOfPage, IsRedoOfBlock, IsRedoPoint}
use Rattle.rm_image.specs.Copies.{copied_page, copied_block, IsCopy}
use Rattle.rm_image.specs.Redo.{page_redone, entries_redone}
use Rattle.rm_image.specs.Standing.{StandsFor, HoldsPage}
use Rattle.rm_image.specs.Laws.{IsUp}
use Rattle.rm_image.specs.Whole.{IsLogSound, IsSoundBy, IsSoundWith, IsWholeWith, IsWhole}

-- of a log in order the master names one checkpoint, or none
abbrev pub CheckpointsAreOne : Type 0
CheckpointsAreOne = (fields : Fields) (batches : List Batch) (named other : Option Listing)
    → IsInOrder (acts_of_batches batches) → HasCheckpoint fields batches named → HasCheckpoint fields batches other
    → named ≡ other

-- no redo offset is before the redo point; while the file is being restored, nor is that of the copied blocks
pub record RedoPointIsLeast : Type 0 where
  pub pages : (fields : Fields) (batches : List Batch) (point page redo : ℕ)
      → IsInOrder (acts_of_batches batches) → fields.restoring ≡ false → IsRedoPoint fields batches point
      → IsRedoOfPage fields batches page redo → point ≤ redo
  pub blocks : (fields : Fields) (batches : List Batch) (point place redo : ℕ)
      → IsInOrder (acts_of_batches batches) → fields.restoring ≡ false → IsRedoPoint fields batches point
      → IsRedoOfBlock fields batches place redo → point ≤ redo
  pub copied : (fields : Fields) (batches : List Batch) (point : ℕ)
      → fields.restoring ≡ true → IsRedoPoint fields batches point → point ≤ fields.start

-- The block with this number is what the log says of the page, once the records from this offset on are repeated.
pub record IsRedone (area : Bytes) (batches : List Batch) (number page from : ℕ) : Type 0 where
  pub version : ℕ
  pub slots : List Slot
  pub block : IsDataBlock area (block_at number) version slots
  pub redone : page_redone (batch_of batches) from page (acts_of_batches batches) (record { version = version; slots = slots })
      ≡ record { version = version_of (acts_of_batches batches) page; slots = page_of (acts_of_batches batches) page }

-- so is a block of the inventory
pub record AreRedone (format : Format) (area : Bytes) (batches : List Batch) (number block from : ℕ) : Type 0 where
  pub version : ℕ
  pub entries : ℕ → ℕ
  pub is_block : IsInventoryBlock format area (block_at number) version entries
  pub redone : IsUp (acts_of_batches batches) block
      (entries_redone (batch_of batches) from block (acts_of_batches batches) (record { version = version; entries = entries }))

-- so is each block of the file, and each copied block
pub record IsFileRedone (c : Image) (start : Start) (batches : List Batch) (from : ℕ) : Type 0 where
  pub pages : (page : ℕ) → page < size_of start batches → IsRedone (c Data) batches page page from
  pub blocks : (block : ℕ) → block < blocks_of (size_of start batches)
      → AreRedone (format_of start batches) (c Space) batches (space_place (format_of start batches) block) block from

pub record IsCopyRedone (area : Bytes) (start : Start) (fields : Fields) (batches : List Batch) (from : ℕ) : Type 0 where
  pub pages : (page : ℕ) → page < fields.copied → IsRedone area batches (copied_page fields.half page) page from
  pub blocks : (block : ℕ) → block < blocks_of fields.copied
      → AreRedone (format_of start batches) area batches (copied_block fields.half block) block from

-- From the redo point on redo makes of each block what the log says: of the file, or of the copy while it is being restored.
pub record WholeImagesAreRedone : Type 0 where
  pub file : (c : Image) (start : Start) (fields : Fields) (batches : List Batch) (point : ℕ) → IsWholeWith c start fields batches
      → fields.restoring ≡ false → IsRedoPoint fields batches point → IsFileRedone c start batches point
  pub copy : (c : Image) (start : Start) (fields : Fields) (batches : List Batch) (point : ℕ) → IsSoundWith c start fields batches
      → fields.restoring ≡ true → IsRedoPoint fields batches point → IsCopyRedone (c Copy) start fields batches point

-- An empty block stands for a page that a copy lacks: no record on it is of a batch from before the copy's start.
abbrev pub PagesPastTheCopyAreEmpty : Type 0
PagesPastTheCopyAreEmpty = (area : Bytes) (format : Format) (batches : List Batch) (half start n page : ℕ)
    → IsInOrder (acts_of_batches batches) → IsCopy area format batches half start n → n ≤ page
    → StandsFor (batch_of batches) (acts_of_batches batches) page 0 [] start

-- so is each page that the file lacks
abbrev pub PagesPastTheFileAreEmpty : Type 0
PagesPastTheFileAreEmpty = (start : Start) (batches : List Batch) (page : ℕ) → AreBelow start.pages (acts_of_batches batches)
    → size_of start batches ≤ page → HoldsPage page 0 [] (acts_of_batches batches)

-- the record is of a transaction
abbrev pub IsOfTxn : Act → Type 0
IsOfTxn (changes c) = Unit {0}
IsOfTxn (undoes u) = Unit {0}
IsOfTxn (enters e) = Unit {0}
IsOfTxn (commits f) = Unit {0}
IsOfTxn (ends f) = Unit {0}
IsOfTxn (marks m) = ⊥

-- where each record is of a transaction, the master names no checkpoint
abbrev pub CheckpointsAreRecords : Type 0
CheckpointsAreRecords = (fields : Fields) (batches : List Batch) (named : Option Listing)
    → AllByRecursion IsOfTxn (acts_of_batches batches) → HasCheckpoint fields batches named → fields.checkpoint ≡ 0

-- What is asked of the history of a sound log that begins in a format.
module _ (Rules : Format → History → Type 0) where
  -- An image whose master names no checkpoint and no copy is sound just where the master has these fields, area Log has this log,
  -- and the log is sound.
  pub record IsLogImage (c : Image) (start : Start) (fields : Fields) (batches : List Batch) : Type 0 where
    pub master : HasFields (c Master) fields
    pub version : IsOfFormat fields start.format
    pub size : fields.pages ≡ start.pages
    pub has_log : HasLog (c Log) batches
    pub log : IsLogSound Rules start batches

  abbrev pub LogImagesAreSound : Type 0
  LogImagesAreSound = (c : Image) (start : Start) (fields : Fields) (batches : List Batch)
      → fields.checkpoint ≡ 0 → fields.half ≡ 0 → IsSoundBy Rules c start fields batches ↔ IsLogImage c start fields batches

  -- Redo of a sound image begins at a gate; so does that of each block, and not after the checkpoint's batch.
  pub record RedoBeginsAtGates : Type 0 where
    pub point : (c : Image) (start : Start) (fields : Fields) (batches : List Batch) (point : ℕ)
        → IsSoundBy Rules c start fields batches → IsInOrder (acts_of_batches batches) → IsRedoPoint fields batches point
        → IsGate batches point
    pub page : (c : Image) (start : Start) (fields : Fields) (batches : List Batch) (page redo : ℕ)
        → IsSoundBy Rules c start fields batches → IsInOrder (acts_of_batches batches) → IsRedoOfPage fields batches page redo
        → IsGate batches redo × (redo ≤ fields.batch)
    pub block : (c : Image) (start : Start) (fields : Fields) (batches : List Batch) (place redo : ℕ)
        → IsSoundBy Rules c start fields batches → IsInOrder (acts_of_batches batches) → IsRedoOfBlock fields batches place redo
        → IsGate batches redo × (redo ≤ fields.batch)

  -- An image is sound with one start, one master and one log. The start is what the master says, where no record changes it.
  pub record SoundImagesAreOne : Type 0 where
    pub start_is : (c : Image) (start : Start) (fields : Fields) (batches : List Batch) → IsSoundBy Rules c start fields batches
        → IsOfFormat fields start.format × (fields.pages ≡ start.pages)
    pub one : (c : Image) (start other : Start) (fields others : Fields) (batches more : List Batch)
        → IsSoundBy Rules c start fields batches → IsSoundBy Rules c other others more
        → (start ≡ other) × (fields ≡ others) × (batches ≡ more)

  -- the copy that it names is of all pages of the file
  abbrev pub CopiesAreOfTheFile : Type 0
  CopiesAreOfTheFile =
      (c : Image) (start : Start) (fields : Fields) (batches : List Batch) → IsSoundBy Rules c start fields batches
      → fields.half ≢ 0 → fields.copied ≡ fields.pages

  -- a new volume is sound by rules that a history without records keeps
  abbrev pub FreshIsSound : Type 0
  FreshIsSound = (pages : ℕ) (c : Image) → Rules One [] → IsFresh pages c
      → IsSoundBy Rules c (record { format = One; pages = pages }) (fresh_fields pages) []

-- and it is whole
abbrev pub FreshIsWhole : Type 0
FreshIsWhole = (pages : ℕ) (c : Image) → IsFresh pages c → IsWhole c
