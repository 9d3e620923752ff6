-- What was done to a volume, newest first; what a read then gives, and what a crash may leave.
use Rattle.std.specs.Prelude.{◌≡◌, ℕ, Bool, List, [], ◌∷◌, if◌then◌else◌}
use Rattle.rm_types.specs.declared.areas.Area.{Area}
use Rattle.rm_outside.specs.Images.{Image, Torn}
use Rattle.rm_outside.specs.Puts.{put}
use Rattle.rm_outside.specs.Since as since

-- A write, with whether it took: one that failed did not. A sync that was answered Ok.
pub data Event : Type 0 where
  Write : (area : Area) (at : ℕ) (bytes : List ℕ) (took : Bool) → Event
  Sync : (area : Area) → Event

-- the image that a read gives
unfoldable pub content : Image → List Event → Image
content base [] = base
content base (Write area at bytes took ∷ rest) = if took then put (content base rest) area at bytes else content base rest
content base (Sync area ∷ rest) = content base rest

-- a crash now may leave this image
unfoldable pub may_leave : Image → List Event → Image → Type 0
may_leave base [] c = c ≡ base
may_leave base (Write area at bytes took ∷ rest) c = (d : Image) × may_leave base rest d × Torn area at bytes d c
may_leave base (Sync area ∷ rest) c = may_leave base rest c × (c area ≡ content base rest area)

-- a crash at a moment from t on might have left it; the moment is the number of events
abbrev pub left_since : Image → List Event → ℕ → Image → Type 0
left_since base = since.left_since (may_leave base)
