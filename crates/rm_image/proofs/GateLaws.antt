-- Redo begins at gates.
use Rattle.std.proofs.Common.{◌≡◌, inl, inr, ℕ, ◌≤◌, true, eqb, List, [], ◌∷◌}
use Rattle.std.proofs.Common.{Option, Some, None, min, refl, sym, subst, arith}
use Rattle.std.proofs.lemmas.Bool.{cases_lt, cond_both}
use Rattle.rm_types.specs.declared.formats.Format.{Format}
use Rattle.rm_types.specs.declared.places.Place.{Place}
use Rattle.rm_outside.specs.Images.{Image}
use Rattle.rm_master.specs.declared.fields.Fields.{Fields}
use Rattle.rm_history.specs.Acts.{History, Listing}
use Rattle.rm_history.specs.Logs.{Batch}
use Rattle.rm_history.specs.Batched.{acts_of_batches, IsGate}
use Rattle.rm_history.specs.Rules.{IsInOrder}
use Rattle.rm_image.specs.Starts.{Start}
use Rattle.rm_image.specs.Checkpoints.{HasCheckpoint, listed_pages, listed_blocks, place_or, least_of, AreGates, IsRedoOffset}
use Rattle.rm_image.specs.Checkpoints.{IsRedoPoint}
use Rattle.rm_image.specs.Whole.{IsSoundBy}
use Rattle.rm_image.specs.ImageLaws.{RedoBeginsAtGates}
use Rattle.rm_image.proofs.Gates.{first_gate, batch_is_gate}
use Rattle.rm_image.proofs.CheckpointLaws.{checkpoints_are_one}
use Rattle.rm_image.proofs.SoundLaws.{has_copy}

-- the lesser of two is one of them
min_both : (a b : ℕ) (P : ℕ → Type 0) → P a → P b → P (min a b)
min_both a b P first second = elim (cases_lt a b) [
  | inl less ↦ subst P (omega arith) first
  | inr more ↦ subst P (omega arith) second
]

-- ---- the redo point and the redo offsets

module _ (batches : List Batch) (batch : ℕ) where
  -- a gate that is not after the batch
  abbrev IsGateWithin : ℕ → Type 0
  IsGateWithin at = IsGate batches at × (at ≤ batch)

  module _ (IsOfFile : ℕ → Type 0) where
    -- a place of the list, or another one, is such a gate, and so is the least of them
    place_or-gate : (places : List Place) (number other : ℕ) → AreGates batches batch IsOfFile places → IsGateWithin other
        → IsGateWithin (place_or places number other)
    place_or-gate [] number other gates is = is
    place_or-gate (first ∷ places) number other gates is =
        cond_both (eqb first.number number) first.at (place_or places number other) IsGateWithin
        (λ here. ((gates first (inl refl)).1, (gates first (inl refl)).2))
        (λ there. place_or-gate places number other (λ place among. gates place (inr among)) is)

    least_of-gate : (places : List Place) (other : ℕ) → AreGates batches batch IsOfFile places → IsGateWithin other
        → IsGateWithin (least_of places other)
    least_of-gate [] other gates is = is
    least_of-gate (first ∷ places) other gates is =
        min_both first.at (least_of places other) IsGateWithin ((gates first (inl refl)).1, (gates first (inl refl)).2)
        (least_of-gate places other (λ place among. gates place (inr among)) is)

module _ (Rules : Format → History → Type 0) (c : Image) (start : Start) (fields : Fields) (batches : List Batch)
    (sound : IsSoundBy Rules c start fields batches) (ordered : IsInOrder (acts_of_batches batches)) where
  -- the checkpoint's batch is a gate, and the first where there is no checkpoint
  batch_gate : (named : Option Listing) → HasCheckpoint fields batches named → IsGateWithin batches fields.batch fields.batch
  batch_gate None has = (subst (IsGate batches) (sym (sound.master.rules.checkpoint.none has)) (first_gate batches), omega arith)
  batch_gate (Some listing) has = (subst (IsGate batches) has.batch_is (batch_is_gate batches listing.lsn), omega arith)

  -- what holds of the checkpoint that is sound holds of each that the master names
  of_named : (named : Option Listing) (P : Option Listing → Type 0) → HasCheckpoint fields batches named
      → P sound.checkpoint.named → P named
  of_named named P has holds =
      subst P (checkpoints_are_one fields batches sound.checkpoint.named named ordered sound.checkpoint.has has) holds

  offset_is_gate : (listed : Option Listing → List Place) (IsOfFile : ℕ → Type 0) (number redo : ℕ)
      → AreGates batches fields.batch IsOfFile (listed sound.checkpoint.named) → IsRedoOffset listed fields batches number redo
      → IsGateWithin batches fields.batch redo
  offset_is_gate listed IsOfFile number redo gates is =
      let here : AreGates batches fields.batch IsOfFile (listed is.0) =
      of_named is.0 (λ named. AreGates batches fields.batch IsOfFile (listed named)) is.1 gates in
      subst (IsGateWithin batches fields.batch) (sym is.2)
      (place_or-gate batches fields.batch IsOfFile (listed is.0) number fields.batch here (batch_gate is.0 is.1))

  -- a file that is being restored has a copy, whose start is a gate
  start_is_gate : fields.restoring ≡ true → IsGate batches fields.start
  start_is_gate restoring = (has_copy Rules c start fields batches sound restoring).copy.gate

  point_is_gate : (point : ℕ) → IsRedoPoint fields batches point → IsGate batches point
  point_is_gate point (inl restoring) = subst (IsGate batches) (sym restoring.1) (start_is_gate restoring.0)
  point_is_gate point (inr is) =
      let named : Option Listing = is.1.0 in
      let blocks : IsGateWithin batches fields.batch (least_of (listed_blocks named) fields.batch) =
      least_of-gate batches fields.batch _ (listed_blocks named) fields.batch
      (of_named named (λ n. AreGates batches fields.batch _ (listed_blocks n)) is.1.1 sound.checkpoint.blocks) (batch_gate named is.1.1) in
      let pages = least_of-gate batches fields.batch _ (listed_pages named) (least_of (listed_blocks named) fields.batch)
      (of_named named (λ n. AreGates batches fields.batch _ (listed_pages n)) is.1.1 sound.checkpoint.pages) blocks in
      subst (IsGate batches) (sym is.1.2) pages.0

pub redo_begins_at_gates : (Rules : Format → History → Type 0) → RedoBeginsAtGates Rules
redo_begins_at_gates Rules = record {
  point = λ c start fields batches point sound ordered. point_is_gate Rules c start fields batches sound ordered point;
  page = λ c start fields batches page redo sound ordered.
      offset_is_gate Rules c start fields batches sound ordered listed_pages _ page redo sound.checkpoint.pages;
  block = λ c start fields batches place redo sound ordered.
      offset_is_gate Rules c start fields batches sound ordered listed_blocks _ place redo sound.checkpoint.blocks;
}
