use Rattle.std.proofs.Common.{IsTrue, ◌↔◌, take}
use Rattle.rm_history.specs.Acts.{acts_of}
use Rattle.rm_history.specs.Transactions.{IsFinished}
use Rattle.rm_audit.proofs.transactions.is_finished.Given as goal

abbrev pub invariant-loop-logged : goal.invariant-loop-logged
invariant-loop-logged l = IsTrue l.finished ↔ IsFinished (acts_of (take l.logged-index l.log)) l.txn.0
