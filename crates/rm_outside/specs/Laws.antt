-- The laws of a volume, of what was done to it.
use Rattle.std.proofs.Common.{ℕ, Bool, true, false, List, [], ◌∷◌, refl}
use Rattle.rm_types.specs.declared.areas.Area.{Area}
use Rattle.rm_outside.specs.Images.{Image, Torn}
use Rattle.rm_outside.specs.History.{Event, Write, Sync, content, may_leave}
use Rattle.rm_outside.specs.PutLaws.{torn_same, torn_put}

pub torn_by : (base : Image) (area : Area) (at : ℕ) (bytes : List ℕ) (took : Bool) (rest : List Event) → Torn area at bytes (content base rest) (content base (Write area at bytes took ∷ rest))
unfolding content
torn_by base area at bytes true rest = torn_put area at bytes (content base rest)
torn_by base area at bytes false rest = torn_same area at bytes (content base rest)

pub content_may_stay : (base : Image) (events : List Event) → may_leave base events (content base events)
unfolding content may_leave
content_may_stay base [] = refl
content_may_stay base (Write area at bytes took ∷ rest) = (content base rest, content_may_stay base rest, torn_by base area at bytes took rest)
content_may_stay base (Sync area ∷ rest) = (content_may_stay base rest, refl)
