use Rattle.std.proofs.Common.{◌≡◌, take, reverse}
use Rattle.rm_history.specs.Acts.{acts_of}
use Rattle.rm_history.specs.Pending.{all_pending as all_pending_of}
use Rattle.rm_audit.proofs.pending.all_pending.Given as goal

abbrev pub invariant-loop-logged : goal.invariant-loop-logged
invariant-loop-logged l = reverse l.pending.items ≡ all_pending_of (acts_of (take l.logged-index l.log))
