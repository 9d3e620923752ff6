-- What a source gives and what a sink takes, where they model it.
use Rattle.std.specs.Prelude.{◌≡◌, ℕ, List, ◌++◌, Option, Some, None}

-- the bytes that were left are these, and then those that are left now
abbrev pub Gives : Option (List ℕ) → Option (List ℕ) → List ℕ → Type 0
Gives None after piece = Unit {0}
Gives (Some bytes) after piece = (rest : List ℕ) × (bytes ≡ piece ++ rest) × (after ≡ Some rest)

-- the bytes that were taken are the old ones, and then these
abbrev pub Takes : Option (List ℕ) → Option (List ℕ) → List ℕ → Type 0
Takes None after piece = Unit {0}
Takes (Some bytes) after piece = after ≡ Some (bytes ++ piece)
