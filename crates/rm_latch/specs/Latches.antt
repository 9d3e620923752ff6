-- The latches of the sessions.
use Rattle.std.specs.Prelude.{◌≡◌, ◌≢◌, ℕ, ◌<◌, ◌≤◌, List, ◌∷◌, Option, None, Some, slice_index_or}
use Rattle.rm_types.specs.declared.modes.Mode.{Mode}
use Rattle.rm_types.specs.declared.modes.Mode.TheVariants.{Shared, Exclusive}
use Rattle.rm_types.specs.declared.numbers.TheConstants.{MAX_SESSIONS}
use Rattle.rm_latch.specs.declared.Latch.{Latch}
use Rattle.rm_latch.specs.declared.Latched.{Latched}
use Rattle.rm_latch.specs.declared.Latched.TheVariants.{Granted, Taken}

-- the sessions have the numbers from 1
abbrev pub IsSession : ℕ → Type 0
IsSession number = (1 ≤ number) × (number ≤ MAX_SESSIONS)

-- the latch of a session: the first place is that of session 1
abbrev pub latch_of : List (Option Latch) → ℕ → Option Latch
latch_of latches session = slice_index_or (None ∷ latches) session None

-- latches in these modes cannot be held on one page at once
abbrev pub Excludes : Mode → Mode → Type 0
Excludes Shared Shared = ⊥
Excludes Shared Exclusive = Unit {0}
Excludes Exclusive Shared = Unit {0}
Excludes Exclusive Exclusive = Unit {0}

-- two sessions cannot have these latches at once
abbrev pub Conflict : Option Latch → Option Latch → Type 0
Conflict a None = ⊥
Conflict None (Some b) = ⊥
Conflict (Some a) (Some b) = (a.page ≡ b.page) × Excludes a.mode b.mode

-- the latches of different sessions are compatible
abbrev pub AreCompatible : List (Option Latch) → Type 0
AreCompatible latches = (a b : ℕ) → a ≢ b → Conflict (latch_of latches a) (latch_of latches b) → ⊥

-- no session has a latch that is incompatible with this one
abbrev pub IsFree : List (Option Latch) → Latch → Type 0
IsFree latches latch = (session : ℕ) → Conflict (latch_of latches session) (Some latch) → ⊥

-- the least session that has a latch incompatible with this one
pub record IsLeastHolder (latches : List (Option Latch)) (latch : Latch) (by : ℕ) : Type 0 where
  pub known : IsSession by
  pub conflict : Conflict (latch_of latches by) (Some latch)
  pub least : (lower : ℕ) → lower < by → Conflict (latch_of latches lower) (Some latch) → ⊥

-- what a session is answered that asks for a latch
abbrev pub Answers : List (Option Latch) → Latch → Latched → Type 0
Answers latches latch Granted = IsFree latches latch
Answers latches latch (Taken by) = IsLeastHolder latches latch by

-- one session has this latch from now on, or none, and all others what they had
pub record ChangesOnly (old new : List (Option Latch)) (session : ℕ) (latch : Option Latch) : Type 0 where
  pub here : latch_of new session ≡ latch
  pub others : (other : ℕ) → other ≢ session → latch_of new other ≡ latch_of old other

-- what the call leaves that asks for a latch
abbrev pub Leaves : List (Option Latch) → ℕ → Latch → Latched → List (Option Latch) → Type 0
Leaves old session latch Granted new = ChangesOnly old new session (Some latch)
Leaves old session latch (Taken by) new = new ≡ old
