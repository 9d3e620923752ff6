use Rattle.std.proofs.Common.{ℕ, ◌<◌, take}
use Rattle.rm_history.specs.Acts.{acts_of}
use Rattle.rm_history.specs.Transactions.{HasRecord}
use Rattle.rm_audit.proofs.listings.not_below.Given as goal

abbrev pub invariant-loop-logged : goal.invariant-loop-logged
invariant-loop-logged l = (txn : ℕ) → HasRecord (acts_of (take l.logged-index l.log)) txn → txn < l.next
