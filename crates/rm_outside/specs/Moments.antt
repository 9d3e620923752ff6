-- What a crash may leave, and how that goes on from call to call. Images are of any type.
use Rattle.std.specs.Prelude.{◌≡◌, ℕ, ◌≤◌, ◌⊎◌}
use Rattle.std.proofs.Common.{inl, inr, ⊎_elim, arith}
use Rattle.rm_types.specs.declared.areas.Area.{Area}
use Rattle.rm_outside.specs.Images.{Image}

-- each image that may be left now is one that might have been left before
pub record AddsNone {I : Type 0} (old new : I → Type 0) : Type 0 where
  pub each : (c : I) → new c → old c

-- an image that comes by one step from one that might have been left
abbrev pub ComesBy : {I : Type 0} → (I → I → Type 0) → (I → Type 0) → I → Type 0
ComesBy {I} step old c = (d : I) × old d × step d c

-- each image that may be left now comes by one step from one that might have been left before
pub record Follows {I : Type 0} (step : I → I → Type 0) (old new : I → Type 0) : Type 0 where
  pub each : (c : I) → new c → (d : I) × old d × step d c

-- each image that may be left has the area as it is read
pub record IsDurable (area : Area) (content : Image) (may_leave : Image → Type 0) : Type 0 where
  pub each : (c : Image) → may_leave c → c area ≡ content area

-- Time goes on: a crash since t might have left what it might have left before, or what it may leave now.
pub record Elapses {I : Type 0} (before now : ℕ) (past since : ℕ → I → Type 0) (may_leave : I → Type 0) : Type 0 where
  pub later : before ≤ now
  pub each : (t : ℕ) (c : I) → t ≤ before → since t c → past t c ⊎ may_leave c
  pub keeps : (t : ℕ) (c : I) → t ≤ before → past t c → since t c

-- Each image that a crash might have left at a moment between the two has P.
pub record LeavesOnly {I : Type 0} (before now : ℕ) (past since : ℕ → I → Type 0) (P : I → Type 0) : Type 0 where
  pub later : before ≤ now
  pub each : (c : I) → since before c → P c
  -- for a run that began earlier
  pub earlier : (t : ℕ) (c : I) → t ≤ before → since t c → past t c ⊎ P c

-- before the first call
pub started : {I : Type 0} (t : ℕ) (since : ℕ → I → Type 0) (P : I → Type 0)
    → ((c : I) → since t c → P c) → LeavesOnly t t since since P
started t since P here = record { later = omega arith; each = here; earlier = λ u c le left. inl left }

-- one call more, after which a crash leaves what has P
pub goes_on : {I : Type 0} {before mid now : ℕ} {past half since : ℕ → I → Type 0} {P may_leave : I → Type 0}
    → LeavesOnly before mid past half P → Elapses mid now half since may_leave
    → ((c : I) → may_leave c → P c) → LeavesOnly before now past since P
goes_on {before = before} so_far time here = record {
  later = omega (arith, so_far.later, time.later);
  each = λ c left. ⊎_elim (so_far.each c) (here c) (time.each before c so_far.later left);
  earlier = λ t c le left. ⊎_elim (so_far.earlier t c le) (λ now. inr (here c now)) (time.each t c (omega (arith, le, so_far.later)) left);
}

-- two stretches of calls, one after the other
pub joined : {I : Type 0} {before mid now : ℕ} {past half since : ℕ → I → Type 0} {P : I → Type 0}
    → LeavesOnly before mid past half P → LeavesOnly mid now half since P → LeavesOnly before now past since P
joined {before = before} first second = record {
  later = omega (arith, first.later, second.later);
  each = λ c left. ⊎_elim (first.each c) (λ p. p) (second.earlier before c first.later left);
  earlier = λ t c le left. ⊎_elim (first.earlier t c le) (λ p. inr p) (second.earlier t c (omega (arith, le, first.later)) left);
}

-- what has P has Q
pub weaker : {I : Type 0} {before now : ℕ} {past since : ℕ → I → Type 0} {P Q : I → Type 0}
    → LeavesOnly before now past since P → ((c : I) → P c → Q c) → LeavesOnly before now past since Q
weaker leaves holds = record {
  later = leaves.later;
  each = λ c left. holds c (leaves.each c left);
  earlier = λ t c le left. ⊎_elim (λ p. inl p) (λ p. inr (holds c p)) (leaves.earlier t c le left);
}

-- what has P because of the moment from which the images come
pub guarded : {I : Type 0} {before now : ℕ} {past since : ℕ → I → Type 0} {step : I → I → Type 0} {left P : I → Type 0} {models : Type 0}
    → LeavesOnly before now past since (ComesBy step left) → ((c : I) → left c → models)
    → (models → LeavesOnly before now past since P) → LeavesOnly before now past since P
guarded comes only leaves = record {
  later = comes.later;
  each = λ c left. let from = comes.each c left in (leaves (only from.0 from.1)).each c left;
  earlier = λ t c le left. ⊎_elim (λ past. inl past) (λ from. (leaves (only from.0 from.1)).earlier t c le left) (comes.earlier t c le left);
}
