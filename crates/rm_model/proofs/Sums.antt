-- Sums over numbers, as the functions that are added up change.
use Rattle.std.proofs.Common.{◌≡◌, ℕ, zero, suc, ◌+◌, ◌<◌, ◌≤◌, inl, inr, refl, ap, arith}
use Rattle.std.proofs.lemmas.Bool.{cases_eq}
use Rattle.rm_model.specs.Sums.{sum_below}

-- nothing adds up to nothing
pub sum_below-zero : (n : ℕ) → sum_below (λ k. 0) n ≡ 0
sum_below-zero zero = refl
sum_below-zero (suc n) = omega (arith, sum_below-zero n)

-- two functions that agree below a number have one sum there
pub sum_below-same : (f g : ℕ → ℕ) (n : ℕ) → ((k : ℕ) → k < n → g k ≡ f k) → sum_below g n ≡ sum_below f n
sum_below-same f g zero same = refl
sum_below-same f g (suc n) same = omega (arith, same n (omega arith), sum_below-same f g n (λ k below. same k (omega arith)))

-- and one that is nowhere above another has no greater sum
pub sum_below-less : (f g : ℕ → ℕ) (n : ℕ) → ((k : ℕ) → g k ≤ f k) → sum_below g n ≤ sum_below f n
sum_below-less f g zero less = omega arith
sum_below-less f g (suc n) less = omega (arith, less n, sum_below-less f g n less)

-- where they agree everywhere but at one number below it, the sums differ as the functions do there
pub sum_below-one : (f g : ℕ → ℕ) (one n : ℕ) → ((k : ℕ) → (k ≡ one → ⊥) → g k ≡ f k) → one < n → sum_below g n + f one ≡ sum_below f n + g one
sum_below-one f g one zero same below = absurd (omega arith)
sum_below-one f g one (suc n) same below = elim (cases_eq n one) [
  | inl here ↦
      let f_here : f n ≡ f one = ap f here in
      let g_here : g n ≡ g one = ap g here in
      omega (arith, f_here, g_here, sum_below-same f g n (λ k under. same k (λ is. omega (arith, is, here, under))))
  | inr other ↦ omega (arith, same n other, sum_below-one f g one n same (omega (arith, other)))
]

-- a sum over more numbers is no less
pub sum_below-more : (f : ℕ → ℕ) (n more : ℕ) → n ≤ more → sum_below f n ≤ sum_below f more
sum_below-more f n zero le = let none : n ≡ 0 = omega arith in rw none (omega arith)
sum_below-more f n (suc more) le = elim (cases_eq n (suc more)) [
  | inl same ↦ rw same (omega arith)
  | inr other ↦ omega (arith, sum_below-more f n more (omega (arith, other)))
]

-- and the same where the function is 0 at those
pub sum_below-past : (f : ℕ → ℕ) (n more : ℕ) → ((k : ℕ) → n ≤ k → f k ≡ 0) → n ≤ more → sum_below f more ≡ sum_below f n
sum_below-past f n zero none le = let same : n ≡ 0 = omega arith in rw same refl
sum_below-past f n (suc more) none le = elim (cases_eq n (suc more)) [
  | inl same ↦ rw same refl
  | inr other ↦ omega (arith, none more (omega (arith, other)), sum_below-past f n more none (omega (arith, other)))
]

-- what is added up at a number is no more than the sum
pub sum_below-at : (f : ℕ → ℕ) (at n : ℕ) → at < n → f at ≤ sum_below f n
sum_below-at f at n below = omega (arith, sum_below-more f (suc at) n (omega arith))
