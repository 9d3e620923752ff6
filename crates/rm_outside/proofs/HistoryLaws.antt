-- What the laws of a volume ask, of what was done to it.
use Rattle.std.proofs.Common.{◌≡◌, ℕ, Bool, true, false, List, ◌∷◌, refl}
use Rattle.rm_types.specs.declared.areas.Area.{Area}
use Rattle.rm_outside.specs.Images.{Image, Torn, Shows}
use Rattle.rm_outside.specs.Moments.{AddsNone, Follows, IsDurable}
use Rattle.rm_outside.specs.Puts.{put}
use Rattle.rm_outside.specs.History.{Event, Write, Sync, content, may_leave}
use Rattle.rm_outside.specs.PutLaws.{torn_same, put_shows}

-- a write
pub shows_written : (base : Image) (area : Area) (at : ℕ) (bytes : List ℕ) (rest : List Event) → Shows (content base (Write area at bytes true ∷ rest) area) at bytes
unfolding content
shows_written base area at bytes rest = put_shows (content base rest) area at bytes

pub write_follows : (base : Image) (area : Area) (at : ℕ) (bytes : List ℕ) (took : Bool) (rest : List Event) → Follows (Torn area at bytes) (may_leave base rest) (may_leave base (Write area at bytes took ∷ rest))
unfolding may_leave
write_follows base area at bytes took rest = record { each = λ c left. left }

pub lost_follows : (base : Image) (area : Area) (at : ℕ) (bytes : List ℕ) (events : List Event) → Follows (Torn area at bytes) (may_leave base events) (may_leave base events)
lost_follows base area at bytes events = record { each = λ c left. (c, left, torn_same area at bytes c) }

-- a sync
pub content-sync : (base : Image) (area : Area) (rest : List Event) → content base (Sync area ∷ rest) ≡ content base rest
unfolding content
content-sync base area rest = refl

pub sync_durable : (base : Image) (area : Area) (rest : List Event) → IsDurable area (content base rest) (may_leave base (Sync area ∷ rest))
unfolding may_leave
sync_durable base area rest = record { each = λ c (left, same). same }

pub sync_adds_none : (base : Image) (area : Area) (rest : List Event) → AddsNone (may_leave base rest) (may_leave base (Sync area ∷ rest))
unfolding may_leave
sync_adds_none base area rest = record { each = λ c (left, same). left }

-- the content after a write
pub content-took : (base : Image) (area : Area) (at : ℕ) (bytes : List ℕ) (rest : List Event) → content base (Write area at bytes true ∷ rest) ≡ put (content base rest) area at bytes
unfolding content
content-took base area at bytes rest = refl

pub content-lost : (base : Image) (area : Area) (at : ℕ) (bytes : List ℕ) (rest : List Event) → content base (Write area at bytes false ∷ rest) ≡ content base rest
unfolding content
content-lost base area at bytes rest = refl
