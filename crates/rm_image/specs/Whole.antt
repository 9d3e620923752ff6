-- Which images are whole: restart finds the committed rows in them, and has room to.
use Rattle.std.specs.Prelude.{◌≡◌, ℕ, ◌+◌, ◌≤◌, ◌<◌, false, List}
use Rattle.rm_types.specs.declared.areas.Area.TheVariants.{Master, Log, Data, Space, Copy}
use Rattle.rm_types.specs.declared.formats.Format.{Format}
use Rattle.rm_types.specs.declared.numbers.TheConstants.{MAX_LOG}
use Rattle.rm_types.specs.Formats.{blocks_of}
use Rattle.rm_outside.specs.Images.{Image}
use Rattle.rm_master.specs.declared.fields.Fields.{Fields}
use Rattle.rm_master.specs.Fields.{IsOfFormat}
use Rattle.rm_master.specs.Slots.{HasFields}
use Rattle.rm_history.specs.declared.TheConstants.{BATCH_HEADER}
use Rattle.rm_history.specs.Acts.{History}
use Rattle.rm_history.specs.Contents.{format_after}
use Rattle.rm_history.specs.Logs.{Batch, gate_of, HasLog}
use Rattle.rm_history.specs.Legal.{IsLegal}
use Rattle.rm_history.specs.UndoBytes.{undo_bytes}
use Rattle.rm_history.specs.Batched.{acts_of_batches, AreBelow, size_after}
use Rattle.rm_block.specs.Blocks.{space_place}
use Rattle.rm_image.specs.Starts.{Start, format_of, size_of, before_checkpoint}
use Rattle.rm_image.specs.Having.{HasPage, HasEntries}
use Rattle.rm_image.specs.Checkpoints.{IsCheckpointSound, IsRedoOfPage, IsRedoOfBlock}
use Rattle.rm_image.specs.Copies.{IsCopySound}

-- The log keeps the rules for histories that begin in its format, its records name pages of the file, and restart's undo has
-- room after it.
pub record IsLogSound (Rules : Format → History → Type 0) (start : Start) (batches : List Batch) : Type 0 where
  pub rules : Rules start.format (acts_of_batches batches)
  pub below : AreBelow start.pages (acts_of_batches batches)
  pub room : gate_of batches + (BATCH_HEADER + undo_bytes start.format (acts_of_batches batches)) ≤ MAX_LOG

-- The image is sound with these, by the rules: its master, its log, its checkpoint and its copy are. The master has the version
-- and the size of the file as it was at the checkpoint.
pub record IsSoundBy (Rules : Format → History → Type 0) (c : Image) (start : Start) (fields : Fields) (batches : List Batch)
    : Type 0 where
  pub master : HasFields (c Master) fields
  pub version : IsOfFormat fields (format_after start.format (before_checkpoint fields batches))
  pub size : fields.pages ≡ size_after start.pages (before_checkpoint fields batches)
  pub has_log : HasLog (c Log) batches
  pub log : IsLogSound Rules start batches
  pub checkpoint : IsCheckpointSound start fields batches
  pub copy : IsCopySound (c Copy) start fields batches

-- It is sound: its log is legal.
abbrev pub IsSoundWith : Image → Start → Fields → List Batch → Type 0
IsSoundWith = IsSoundBy IsLegal

-- a block of the file has what its redo offset says
abbrev pub IsPageWhole : Image → Fields → List Batch → ℕ → Type 0
IsPageWhole c fields batches page = (redo : ℕ) × IsRedoOfPage fields batches page redo × HasPage (c Data) batches page page redo

abbrev pub IsBlockWhole : Image → Format → Fields → List Batch → ℕ → Type 0
IsBlockWhole c format fields batches block =
    (redo : ℕ) × IsRedoOfBlock fields batches (space_place format block) redo
    × HasEntries format (c Space) batches (space_place format block) block redo

-- each block of the file has
pub record AreBlocksWhole (c : Image) (start : Start) (fields : Fields) (batches : List Batch) : Type 0 where
  pub pages : (page : ℕ) → page < size_of start batches → IsPageWhole c fields batches page
  pub blocks : (block : ℕ) → block < blocks_of (size_of start batches)
      → IsBlockWhole c (format_of start batches) fields batches block

-- It is whole: each block of the file is too, unless the file is being restored.
pub record IsWholeWith (c : Image) (start : Start) (fields : Fields) (batches : List Batch) : Type 0 where
  pub sound : IsSoundWith c start fields batches
  pub blocks : fields.restoring ≡ false → AreBlocksWhole c start fields batches

-- the image is sound by the rules, with some start, fields and log; it is sound, and it is whole
pub record IsSoundUnder (Rules : Format → History → Type 0) (c : Image) : Type 0 where
  pub start : Start
  pub fields : Fields
  pub batches : List Batch
  pub sound : IsSoundBy Rules c start fields batches

abbrev pub IsSound : Image → Type 0
IsSound = IsSoundUnder IsLegal

pub record IsWhole (c : Image) : Type 0 where
  pub start : Start
  pub fields : Fields
  pub batches : List Batch
  pub whole : IsWholeWith c start fields batches
