-- Bytes that are cut in two.
use Rattle.std.specs.Prelude.{◌≡◌, ◌≢◌, ℕ, List, ◌∷◌, ◌++◌}
use Rattle.std.specs.List.{AllByRecursion}

-- the byte does not stand in the text
abbrev pub Lacks : ℕ → List ℕ → Type 0
Lacks byte text = AllByRecursion (λ other. other ≢ byte) text

-- the text is cut in two at the first such byte
pub record IsCut (byte : ℕ) (text prefix back : List ℕ) : Type 0 where
  pub whole : text ≡ prefix ++ byte ∷ back
  pub is_first : Lacks byte prefix
