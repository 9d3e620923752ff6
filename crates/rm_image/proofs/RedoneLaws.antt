-- From the redo point on redo makes of each block of a whole image what the log says.
use Rattle.std.proofs.Common.{◌≡◌, ℕ, ◌≤◌, List, true, false}
use Rattle.rm_types.specs.declared.areas.Area.TheVariants.{Data, Space, Copy}
use Rattle.rm_types.specs.declared.formats.Format.{Format}
use Rattle.rm_outside.specs.Images.{Bytes, Image}
use Rattle.rm_master.specs.declared.fields.Fields.{Fields}
use Rattle.rm_history.specs.Logs.{Batch}
use Rattle.rm_history.specs.Rules.{IsInOrder}
use Rattle.rm_history.specs.Legal.{IsLegal}
use Rattle.rm_history.specs.Batched.{acts_of_batches, batch_of}
use Rattle.rm_history.proofs.Prefixes.{legal_is_in_order}
use Rattle.rm_block.specs.Blocks.{space_place}
use Rattle.rm_image.specs.Starts.{Start, format_of}
use Rattle.rm_image.specs.Having.{HasPage, HasEntries}
use Rattle.rm_image.specs.Copies.{copied_page, copied_block}
use Rattle.rm_image.specs.Checkpoints.{IsRedoPoint}
use Rattle.rm_image.specs.Whole.{IsSoundWith, IsWholeWith}
use Rattle.rm_image.specs.ImageLaws.{IsRedone, AreRedone, IsFileRedone, IsCopyRedone, WholeImagesAreRedone}
use Rattle.rm_image.proofs.RedoLaws.{redo_brings_pages_up, redo_brings_entries_up}
use Rattle.rm_image.proofs.CheckpointLaws.{redo_point_is_least}
use Rattle.rm_image.proofs.SoundLaws.{has_copy}

module _ (area : Bytes) (batches : List Batch) (ordered : IsInOrder (acts_of_batches batches)) (number redo from : ℕ) (le : from ≤ redo) where
  page_is_redone : (page : ℕ) → HasPage area batches number page redo → IsRedone area batches number page from
  page_is_redone page has = record {
    version = has.version;
    slots = has.slots;
    block = has.block;
    redone =
        redo_brings_pages_up (batch_of batches) (acts_of_batches batches) page has.version has.slots redo from ordered le has.stands;
  }

  entries_are_redone : (format : Format) (block : ℕ) → HasEntries format area batches number block redo
      → AreRedone format area batches number block from
  entries_are_redone format block has = record {
    version = has.version;
    entries = has.entries;
    is_block = has.is_block;
    redone =
        redo_brings_entries_up (batch_of batches) (acts_of_batches batches) block has.version has.entries redo from ordered le has.stands;
  }

module _ (c : Image) (start : Start) (fields : Fields) (batches : List Batch) (point : ℕ) where
  abbrev format : Format
  format = format_of start batches

  in_order : IsSoundWith c start fields batches → IsInOrder (acts_of_batches batches)
  in_order sound = legal_is_in_order start.format (acts_of_batches batches) sound.log.rules

  file_is_redone : IsWholeWith c start fields batches → fields.restoring ≡ false → IsRedoPoint fields batches point
      → IsFileRedone c start batches point
  file_is_redone whole not_restoring is_point =
      let ordered : IsInOrder (acts_of_batches batches) = in_order whole.sound in
      record {
        pages = λ page inside.
            let has = (whole.blocks not_restoring).pages page inside in
            page_is_redone (c Data) batches ordered page has.0 point
            (redo_point_is_least.pages fields batches point page has.0 ordered not_restoring is_point has.1) page has.2;
        blocks = λ block inside.
            let has = (whole.blocks not_restoring).blocks block inside in
            entries_are_redone (c Space) batches ordered (space_place format block) has.0 point
            (redo_point_is_least.blocks fields batches point (space_place format block) has.0 ordered not_restoring is_point has.1)
            format block has.2;
      }

  copy_is_redone : IsSoundWith c start fields batches → fields.restoring ≡ true → IsRedoPoint fields batches point
      → IsCopyRedone (c Copy) start fields batches point
  copy_is_redone sound restoring is_point =
      let ordered : IsInOrder (acts_of_batches batches) = in_order sound in
      let copied = has_copy IsLegal c start fields batches sound restoring in
      let le : point ≤ fields.start = redo_point_is_least.copied fields batches point restoring is_point in
      record {
        pages = λ page inside.
            page_is_redone (c Copy) batches ordered (copied_page fields.half page) fields.start point le page (copied.copy.pages page inside);
        blocks = λ block inside.
            entries_are_redone (c Copy) batches ordered (copied_block fields.half block) fields.start point le format block
            (copied.copy.blocks block inside);
      }

pub whole_images_are_redone : WholeImagesAreRedone
whole_images_are_redone = record { file = file_is_redone; copy = copy_is_redone }
