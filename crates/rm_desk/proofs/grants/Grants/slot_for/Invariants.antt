use Rattle.rm_desk.proofs.Names.{◌≡◌, ℕ, ◌<◌, ◌-◌, ◌+◌, None, MAX_SLOT, Vacant, row_at, slot_at, IsHeld}
use Rattle.rm_desk.proofs.grants.Grants.slot_for.Given as goal

abbrev pub invariant-loop-txn : goal.invariant-loop-txn
invariant-loop-txn l =
    record {
      vacant : row_at l.page.slots l.slot ≡ None;
      least : (lower : ℕ) → lower < l.slot → slot_at l.page.slots lower ≡ Vacant → (IsHeld l.self.grants l.txn.0 l.number lower → ⊥) → ⊥;
    }

abbrev pub decreases-loop-txn : goal.decreases-loop-txn
decreases-loop-txn l = (MAX_SLOT + 1) - l.slot
