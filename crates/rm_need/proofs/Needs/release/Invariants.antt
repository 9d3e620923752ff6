use Rattle.std.proofs.Common.{◌≡◌, ℕ, length}
use Rattle.rm_need.specs.Needs.{entry_in}
use Rattle.rm_need.proofs.Needs.release.Given as goal

abbrev pub invariant-loop-page : goal.invariant-loop-page
invariant-loop-page l = (at by : ℕ) → (by ≡ l.txn.0 → ⊥) → entry_in l.self at by ≡ entry_in l.initial.self at by

abbrev pub decreases-loop-page : goal.decreases-loop-page
decreases-loop-page l = length l.self
