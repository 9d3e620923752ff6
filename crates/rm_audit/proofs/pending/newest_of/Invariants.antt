use Rattle.std.proofs.Common.{take}
use Rattle.rm_audit.specs.Parts.{IsNewestOf}
use Rattle.rm_audit.proofs.pending.newest_of.Given as goal

abbrev pub invariant-loop-index : goal.invariant-loop-index
invariant-loop-index l = IsNewestOf l.txn.0 (take l.index l.pending) l.found
