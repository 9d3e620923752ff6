-- What a volume holds: the bytes of its five areas, at one moment.
use Rattle.std.specs.Prelude.{◌≡◌, ◌≢◌, ℕ, ◌+◌, ◌<◌, ◌≤◌, List, length, slice_index, IsTrue, ◌⊎◌}
use Rattle.rm_types.specs.declared.areas.Area.{Area}
use Rattle.rm_outside.specs.Areas.{is_blocked}

-- the byte at each offset of an area; past the area's end it is 0
abbrev pub Bytes : Type 0
Bytes = ℕ → ℕ

-- the bytes of each area
abbrev pub Image : Type 0
Image = Area → Bytes

-- these bytes stand at this offset
pub record Shows (area : Bytes) (at : ℕ) (bytes : List ℕ) : Type 0 where
  pub each : (k : ℕ) → k < length bytes → area (at + k) ≡ slice_index bytes k

-- Some of these bytes were put at this offset of the area, and nothing else was changed. Of a block
-- either all were put or none.
pub record Torn (area : Area) (at : ℕ) (bytes : List ℕ) (old new : Image) : Type 0 where
  pub areas : (other : Area) → (other ≡ area → ⊥) → new other ≡ old other
  pub before : (k : ℕ) → k < at → new area k ≡ old area k
  pub after : (k : ℕ) → at + length bytes ≤ k → new area k ≡ old area k
  pub whole : IsTrue (is_blocked area) → (new area ≡ old area) ⊎ Shows (new area) at bytes

-- the other areas stay
pub record KeepsOthers (area : Area) (old new : Image) : Type 0 where
  pub each : (other : Area) → other ≢ area → new other ≡ old other
