-- Counts of faults, by which an error shows its cause.
use Rattle.std.specs.Prelude.{◌≡◌, ℕ, ◌-◌, ◌^◌, ◌≤◌, ◌<◌, ◌⊎◌, Result, OnErr}

-- the last value of a count, at which it stays
abbrev pub last_count : ℕ
last_count = 2 ^ 64 - 1

-- a fault was counted between the two; at its last value a count says so of every moment
abbrev pub Rises : ℕ → ℕ → Type 0
Rises before after = (before < after) ⊎ (after ≡ last_count)

-- the count never falls, and an error comes only where it rose
pub record HasCause {T E : Type 0} (before after : ℕ) (outcome : Result T E) : Type 0 where
  pub kept : before ≤ after
  pub counted : OnErr outcome (Rises before after)
