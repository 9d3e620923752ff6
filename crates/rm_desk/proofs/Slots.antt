-- The slot for a new row, as it is looked for.
use Rattle.rm_desk.proofs.Names.{nat_tests, arith, ◌≡◌, ◌≤◌, ◌<◌, ◌+◌, ℕ, IsSome, List, arith}
use Rattle.rm_desk.proofs.Names.{Slot, Vacant, row_at, slot_at}

-- the least slots are taken or held, up to the next vacant one
pub least_next : (slots : List Slot) (IsTaken : ℕ → Type 0) (slot next : ℕ) → ((lower : ℕ) → lower < slot → slot_at slots lower ≡ Vacant → (IsTaken lower → ⊥) → ⊥)
    → ((IsTaken slot → ⊥) → ⊥) → ((other : ℕ) → slot + 1 ≤ other → other < next → IsSome (row_at slots other))
    → (lower : ℕ) → lower < next → slot_at slots lower ≡ Vacant → (IsTaken lower → ⊥) → ⊥
least_next slots IsTaken slot next before here between lower below vacant free = grind (arith, nat_tests)
