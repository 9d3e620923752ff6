-- What holds of all volumes that are damaged, made or opened.
use Rattle.std.specs.Prelude.{◌≡◌, ℕ, Bool, List, None, IsTrue}
use Rattle.rm_types.specs.declared.areas.Area.{Area}
use Rattle.rm_types.specs.declared.slots.Slot.{Slot}
use Rattle.rm_outside.specs.Images.{Image}
use Rattle.rm_master.specs.Slots.{IsUnmade}
use Rattle.rm_master.specs.Fresh.{IsFresh}
use Rattle.rm_wal.specs.Tails.{LogValue}
use Rattle.rm_restart.specs.Sound.{IsImageOf, IsSoundLog, IsPlainImage, Holds}
use Rattle.rm_restart.specs.Opening.{Opens, NeedsUndoOf, IsDamage}

-- what is damaged is not sound, and neither is what is not made
abbrev pub DamagedIsNotSound : Type 0
DamagedIsNotSound = (content : Image) (area : Area) (at : ℕ) → IsDamage content area at → IsPlainImage content → ⊥

abbrev pub UnmadeIsNotSound : Type 0
UnmadeIsNotSound = (content : Image) → IsUnmade content → IsPlainImage content → ⊥

-- a volume is damaged at one place alone
abbrev pub OnePlaceIsDamaged : Type 0
OnePlaceIsDamaged = (content : Image) (area other : Area) (at place : ℕ) → IsDamage content area at → IsDamage content other place → (area ≡ other) × (at ≡ place)

-- a volume that was just made is sound, and has no commits and no rows
abbrev pub FreshIsSound : Type 0
FreshIsSound = (pages : ℕ) (content : Image) → IsFresh pages content → (held : Holds 0 (λ rid. None) content) × (held.image.fields.pages ≡ pages)

-- The pages and the batches that an opening read are those of the sound image.
pub record IsReadFrom (content : Image) {modelled : Type 0} {limit next inserted : ℕ} {pages : List (List Slot)} {log : LogValue}
    (image : IsPlainImage content) (opens : Opens modelled content limit pages next log inserted) : Type 0 where
  pub batches_are : image.batches ≡ opens.batches
  pub pages_are : image.fields.pages ≡ opens.fields.pages
  pub sound_log : IsSoundLog opens.fields.pages opens.batches
  pub image_of : IsImageOf opens.fields.pages opens.batches content

-- an opening of a sound image that is reported reads what the image is of
abbrev pub OpenedIsSound : Type 0
OpenedIsSound = (models : Bool) (content : Image) (limit : ℕ) (pages : List (List Slot)) (next : ℕ) (log : LogValue) (inserted : ℕ)
    (opens : Opens (IsTrue models) content limit pages next log inserted) → IsTrue models → (image : IsPlainImage content) → IsReadFrom content image opens

-- what is reported opens only if nothing is to be undone
abbrev pub OpenedNeedsNoUndo : Type 0
OpenedNeedsNoUndo = (models : Bool) (content : Image) (limit : ℕ) (pages : List (List Slot)) (next : ℕ) (log : LogValue) (inserted id : ℕ)
    → Opens (IsTrue models) content limit pages next log inserted → NeedsUndoOf (IsTrue models) content id → IsTrue models → ⊥
