use Rattle.std.proofs.Common.{◌≡◌, ℕ, take}
use Rattle.rm_history.specs.Acts.{acts_of}
use Rattle.rm_history.specs.Transactions.{IsFinished, HasRecord}
use Rattle.rm_audit.specs.Parts.{IsNamed}
use Rattle.rm_audit.proofs.listings.forgotten.Given as goal

abbrev pub invariant-loop-logged : goal.invariant-loop-logged
invariant-loop-logged l =
    (txn : ℕ) → (txn ≡ 0 → ⊥) → HasRecord (acts_of (take l.logged-index l.log)) txn → (IsFinished (acts_of l.log) txn → ⊥) → IsNamed l.losers txn
