-- Which images are sound for a program that keeps no inventory and makes no checkpoint and no copy.
use Rattle.std.specs.Prelude.{◌≡◌, ℕ, List}
use Rattle.rm_types.specs.declared.areas.Area.TheVariants.{Master, Log}
use Rattle.rm_types.specs.declared.formats.Format.{Format}
use Rattle.rm_types.specs.declared.formats.Format.TheVariants.{One}
use Rattle.rm_outside.specs.Images.{Image}
use Rattle.rm_model.specs.Object.{Rows}
use Rattle.rm_master.specs.declared.fields.Fields.{Fields}
use Rattle.rm_master.specs.Slots.{HasFields}
use Rattle.rm_history.specs.Logs.{Batch, HasLog}
use Rattle.rm_history.specs.Acts.{History}
use Rattle.rm_history.specs.Rows.{rows_of_log}
use Rattle.rm_history.specs.Counts.{commit_count}
use Rattle.rm_history.specs.Rules.{IsInOrder}
use Rattle.rm_history.specs.Batched.{acts_of_batches}
use Rattle.rm_image.specs.Starts.{Start}
use Rattle.rm_image.specs.Whole.{IsLogSound, IsSoundBy}
use Rattle.rm_restart.specs.Plain.{ArePlain}

-- The history is in order, and of inserts and commits alone. It need not be legal: the inventory is not kept yet.
abbrev pub PlainRules : Format → History → Type 0
PlainRules format history = IsInOrder history × ArePlain history

-- a log of a file with this many pages, in the one format that there is
abbrev pub start_of : ℕ → Start
start_of pages = record { format = One; pages = pages }

abbrev pub IsSoundLog : ℕ → List Batch → Type 0
IsSoundLog pages batches = IsLogSound PlainRules (start_of pages) batches

-- The image is of a file of this many pages, with the log of these batches. Its master names no checkpoint and no copy.
pub record IsImageOf (pages : ℕ) (batches : List Batch) (c : Image) : Type 0 where
  pub fields : Fields
  pub master : HasFields (c Master) fields
  pub size : fields.pages ≡ pages
  pub checkpoint : fields.checkpoint ≡ 0
  pub half : fields.half ≡ 0
  pub log : HasLog (c Log) batches

-- the image is sound by these rules, and its master names no copy
pub record IsPlainImage (c : Image) : Type 0 where
  pub start : Start
  pub fields : Fields
  pub batches : List Batch
  pub sound : IsSoundBy PlainRules c start fields batches
  pub half : fields.half ≡ 0

-- the image is one of these, and its log has `count` commits and these rows
pub record Holds (count : ℕ) (rows : Rows) (c : Image) : Type 0 where
  pub image : IsPlainImage c
  pub commits_are : commit_count (acts_of_batches image.batches) ≡ count
  pub rows_are : rows_of_log (acts_of_batches image.batches) ≡ rows
