-- The lists of a checkpoint, and how they are spelled.
use Rattle.std.specs.Prelude.{ℕ, ◌+◌, ◌≤◌, ◌<◌, ◌^◌, List, [], ◌∷◌, ◌++◌, length}
use Rattle.std.specs.List.{flat_map}
use Rattle.std.specs.Int.{w16, w32, w64, to_be_bytes}
use Rattle.rm_types.specs.declared.places.Place.{Place}
use Rattle.rm_types.specs.declared.places.TheConstants.{MAX_PLACES}

-- a place: four bytes of number, eight of offset
abbrev pub place_bytes : Place → List ℕ
place_bytes place = to_be_bytes w32 place.number ++ to_be_bytes w64 place.at

-- places: two bytes of how many, and that many of them
abbrev pub places_bytes : List Place → List ℕ
places_bytes places = to_be_bytes w16 (length places) ++ flat_map place_bytes places

-- the numbers rise strictly, from low on and to high at most
abbrev pub AreBetween : ℕ → ℕ → List Place → Type 0
AreBetween low high [] = Unit {0}
AreBetween low high (place ∷ places) = (low ≤ place.number) × (place.number ≤ high) × (place.at < 2 ^ 64) × AreBetween (place.number + 1) high places

-- the ranges of places
pub record ArePlaces (low high : ℕ) (places : List Place) : Type 0 where
  pub few : length places ≤ MAX_PLACES
  pub between : AreBetween low high places
