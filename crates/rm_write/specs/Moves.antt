-- How a text that is gathered in a buffer comes to a sink.
use Rattle.std.specs.Prelude.{◌≡◌, ℕ, List, ◌++◌, Option}
use Rattle.rm_outside.specs.Streams.{Takes}

-- The sink takes a prefix of the text, and the buffer keeps the rest.
pub record Moves (before after : Option (List ℕ)) (text rest : List ℕ) : Type 0 where
  pub sent : List ℕ
  pub cut : text ≡ sent ++ rest
  pub took : Takes before after sent

-- the sink takes a prefix of the text
abbrev pub TakesFront : Option (List ℕ) → Option (List ℕ) → List ℕ → Type 0
TakesFront before after text = (rest : List ℕ) × Moves before after text rest
