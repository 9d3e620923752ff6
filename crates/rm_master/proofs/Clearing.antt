-- Zeros in blocks.
use Rattle.std.proofs.Common.{◌≡◌, ℕ, ◌+◌, ◌-◌, ◌*◌, ◌<◌, List, length, get_or, ◌∙◌, ap, inl, inr, arith}
use Rattle.std.proofs.lemmas.Bool.{cases_lt}
use Rattle.rm_types.specs.declared.areas.Area.{Area}
use Rattle.rm_outside.specs.Images.{Image, Shows, Torn}
use Rattle.rm_master.specs.Fresh.{IsZeroBelow}

-- zeros after zeros
pub zeros_on : (area : Area) (old new : Image) (size block : ℕ) (zeros : List ℕ) → length zeros ≡ size → ((k : ℕ) → k < size → get_or zeros k 0 ≡ 0)
    → Torn area (size * block) zeros old new → Shows (new area) (size * block) zeros → IsZeroBelow (old area) (size * block) → IsZeroBelow (new area) (size * (block + 1))
zeros_on area old new size block zeros len are_zeros torn shown below = record { each = at }
  where
    at : (k : ℕ) → k < size * (block + 1) → new area k ≡ 0
    at k lt = elim (cases_lt k (size * block)) [
      | inl front ↦ torn.before k front ∙ below.each k front
      | inr after ↦
          let short : k - size * block < size = omega arith in
          let place : k ≡ size * block + (k - size * block) = omega arith in
          ap (new area) place ∙ shown.each (k - size * block) (omega arith) ∙ are_zeros (k - size * block) short
    ]
