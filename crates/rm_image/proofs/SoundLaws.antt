-- A sound image has one reading, and which images are sound whose master names no checkpoint and no copy.
use Rattle.std.proofs.Common.{◌≡◌, inl, inr, true, false, None, List, refl, sym, ap, ◌∙◌, arith}
use Rattle.rm_types.specs.declared.areas.Area.TheVariants.{Master, Log, Copy}
use Rattle.rm_types.specs.declared.formats.Format.{Format}
use Rattle.rm_types.specs.declared.formats.Format.TheVariants.{One}
use Rattle.rm_outside.specs.Images.{Image}
use Rattle.rm_master.specs.declared.fields.Fields.{Fields}
use Rattle.rm_master.specs.Fields.{IsOfFormat}
use Rattle.rm_master.proofs.SlotLemmas.{one_shown}
use Rattle.rm_history.specs.Acts.{History}
use Rattle.rm_history.specs.Logs.{Batch}
use Rattle.rm_history.proofs.Readings.{log_once}
use Rattle.rm_image.specs.Starts.{Start}
use Rattle.rm_image.specs.Copies.{IsCopyOfFile}
use Rattle.rm_image.specs.Whole.{IsSoundBy}
use Rattle.rm_image.specs.ImageLaws.{LogImagesAreSound, SoundImagesAreOne, CopiesAreOfTheFile}

-- a master is of one format
one_format : (fields : Fields) (a b : Format) → IsOfFormat fields a → IsOfFormat fields b → a ≡ b
one_format fields One One is other = refl

module _ (Rules : Format → History → Type 0) where
  pub log_images_are_sound : LogImagesAreSound Rules
  log_images_are_sound c start fields batches no_checkpoint no_copy = (
    λ sound. record { master = sound.master; version = sound.version; size = sound.size; has_log = sound.has_log; log = sound.log },
    λ image. record {
      master = image.master;
      version = image.version;
      size = image.size;
      has_log = image.has_log;
      log = image.log;
      checkpoint =
          record { named = None; has = no_checkpoint; pages = λ place none. absurd none; blocks = λ place none. absurd none };
      copy = inl no_copy;
    },
  )

  one_reading : (c : Image) (start other : Start) (fields others : Fields) (batches more : List Batch)
      → IsSoundBy Rules c start fields batches → IsSoundBy Rules c other others more
      → (start ≡ other) × (fields ≡ others) × (batches ≡ more)
  one_reading c start other fields others batches more sound again =
      let same : fields ≡ others = one_shown (c Master) _ fields others sound.master.rules again.master.rules sound.master.slot again.master.slot in
      let format : start.format ≡ other.format = one_format fields start.format other.format sound.version (rw same again.version) in
      let pages : start.pages ≡ other.pages = sym sound.size ∙ ap (λ (f : Fields). f.pages) same ∙ again.size in
      (λ i. record { format = format i; pages = pages i }, same, log_once (c Log) batches more sound.has_log again.has_log)

  pub sound_images_are_one : SoundImagesAreOne Rules
  sound_images_are_one = record { start_is = λ c start fields batches sound. (sound.version, sound.size); one = one_reading }

  pub copies_are_of_the_file : CopiesAreOfTheFile Rules
  copies_are_of_the_file c start fields batches sound named = elim sound.copy [
    | inl none ↦ absurd (named none)
    | inr of_file ↦ omega (arith, of_file.covers, sound.size, sound.master.rules.copy.copied_within)
  ]

  -- a file that is being restored has a copy
  pub has_copy : (c : Image) (start : Start) (fields : Fields) (batches : List Batch) → IsSoundBy Rules c start fields batches
      → fields.restoring ≡ true → IsCopyOfFile (c Copy) start fields batches
  has_copy c start fields batches sound restoring = elim sound.copy [
    | inl none ↦ let not : fields.restoring ≡ false = sound.master.rules.copy.not_restoring none in cc
    | inr copy ↦ copy
  ]
