-- Entries that are all 0.
use Rattle.std.proofs.Common.{◌≡◌, ℕ, zero, suc, replicate, refl}
use Rattle.std.specs.Prelude.{slice_index}

-- each reads as 0, and so does what is past them
pub zeros_at : (count index : ℕ) → slice_index (replicate count 0) index ≡ 0
zeros_at zero index = refl
zeros_at (suc count) zero = refl
zeros_at (suc count) (suc index) = zeros_at count index
