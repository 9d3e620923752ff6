-- A change of one latch, and that the latches stay compatible.
use Rattle.std.proofs.Common.{ℕ, ◌-◌, ◌≤◌, List, length, Option, None, Some, slice_set, inl, inr, sym, ◌∙◌, arith}
use Rattle.std.proofs.lemmas.Bool.{cases_eq}
use Rattle.std.proofs.lemmas.Grind.{common_steps}
use Rattle.rm_types.specs.declared.modes.Mode.{Mode}
use Rattle.rm_types.specs.declared.modes.Mode.TheVariants.{Shared, Exclusive}
use Rattle.rm_latch.specs.declared.Latch.{Latch}
use Rattle.rm_latch.specs.Latches.{latch_of, Excludes, Conflict, AreCompatible, ChangesOnly}

Excludes-sym : (a b : Mode) → Excludes a b → Excludes b a
Excludes-sym Shared Shared never = never
Excludes-sym Shared Exclusive is = tt
Excludes-sym Exclusive Shared is = tt
Excludes-sym Exclusive Exclusive is = tt

Conflict-sym : (a b : Option Latch) → Conflict a b → Conflict b a
Conflict-sym a None never = absurd never
Conflict-sym None (Some b) never = never
Conflict-sym (Some a) (Some b) is = (sym is.0, Excludes-sym a.mode b.mode is.1)

-- the latches stay compatible with one more that is compatible with all
compatible_after : (old new : List (Option Latch)) (session : ℕ) (latch : Option Latch) → AreCompatible old
    → ((other : ℕ) → Conflict (latch_of old other) latch → ⊥) → ChangesOnly old new session latch → AreCompatible new
compatible_after old new session latch are free only a b differ conflict =
    elim (cases_eq a session) [
      | inl mine ↦ free b (Conflict-sym latch (latch_of old b) (rw (mine, only.here, only.others b (λ same. differ (mine ∙ sym same))) at conflict))
      | inr apart ↦ elim (cases_eq b session) [
        | inl mine ↦ free a (rw (mine, only.here, only.others a apart) at conflict)
        | inr others ↦ are a b differ (rw (only.others a apart, only.others b others) at conflict)
      ]
    ]

-- so do they when the place of a session is written
pub compatible_set : (latches : List (Option Latch)) (session : ℕ) (latch : Option Latch) → 1 ≤ session → session ≤ length latches
    → AreCompatible latches → ((other : ℕ) → Conflict (latch_of latches other) latch → ⊥) → AreCompatible (slice_set latches (session - 1) latch)
compatible_set latches session latch some among are free =
    compatible_after latches (slice_set latches (session - 1) latch) session latch are free
    (record { here = grind (arith, common_steps); others = λ other differs. grind (arith, common_steps) })
