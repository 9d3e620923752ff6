use Rattle.std.proofs.Common.{◌≡◌, ℕ, take}
use Rattle.rm_history.specs.Acts.{acts_of}
use Rattle.rm_history.specs.Transactions.{IsFinished, HasChange}
use Rattle.rm_audit.proofs.transactions.open_other.Given as goal

abbrev pub invariant-loop-logged : goal.invariant-loop-logged
invariant-loop-logged l = (other : ℕ) → (other ≡ l.txn.0 → ⊥) → HasChange (acts_of (take l.logged-index l.log)) other l.rid → IsFinished (acts_of l.log) other
