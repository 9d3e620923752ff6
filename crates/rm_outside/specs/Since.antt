-- What a crash might have left since a moment, where what was done is a list, the newest first, and a moment is its length.
use Rattle.std.proofs.Common.{◌⊎◌, inl, inr, ℕ, ◌≤◌, List, [], ◌∷◌, length, arith}
use Rattle.rm_outside.specs.Moments.{Elapses}

-- a crash at a moment from t on might have left it, where `may_leave` is what it may leave after what was done so far
unfoldable pub left_since : {E I : Type 0} → (List E → I → Type 0) → List E → ℕ → I → Type 0
left_since may_leave [] t c = may_leave [] c
left_since may_leave (done ∷ rest) t c = may_leave (done ∷ rest) c ⊎ ((t ≤ length rest) × left_since may_leave rest t c)

pub counts_now : {E I : Type 0} (may_leave : List E → I → Type 0) (all : List E) (t : ℕ) (c : I) → may_leave all c → left_since may_leave all t c
unfolding left_since
counts_now may_leave [] t c now = now
counts_now may_leave (done ∷ rest) t c now = inl now

pub only_now : {E I : Type 0} (may_leave : List E → I → Type 0) (all : List E) (c : I) → left_since may_leave all (length all) c → may_leave all c
unfolding left_since
only_now may_leave [] c left = left
only_now may_leave (done ∷ rest) c (inl now) = now
only_now may_leave (done ∷ rest) c (inr (late, left)) = absurd (omega (arith, late))

-- time goes on by what is done, or stands
pub elapses : {E I : Type 0} (may_leave : List E → I → Type 0) (done : E) (rest : List E)
    → Elapses (length rest) (length (done ∷ rest)) (left_since may_leave rest) (left_since may_leave (done ∷ rest)) (may_leave (done ∷ rest))
unfolding left_since
elapses {E} {I} may_leave done rest = record {
  later = omega arith;
  each = λ t c le left. since t c left;
  keeps = λ t c le left. inr (le, left);
}
  where
    since : (t : ℕ) (c : I) → may_leave (done ∷ rest) c ⊎ ((t ≤ length rest) × left_since may_leave rest t c) → left_since may_leave rest t c ⊎ may_leave (done ∷ rest) c
    since t c (inl now) = inr now
    since t c (inr (late, left)) = inl left

pub stands : {E I : Type 0} (may_leave : List E → I → Type 0) (all : List E)
    → Elapses (length all) (length all) (left_since may_leave all) (left_since may_leave all) (may_leave all)
stands may_leave all = record { later = omega arith; each = λ t c le left. inl left; keeps = λ t c le left. left }
