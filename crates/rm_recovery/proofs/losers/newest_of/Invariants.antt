use Rattle.rm_recovery.specs.Losers.{HasNoneBefore}
use Rattle.rm_recovery.proofs.losers.newest_of.Given as goal

abbrev pub invariant-loop-index : goal.invariant-loop-index
invariant-loop-index l = HasNoneBefore l.txn.0 l.pending.items l.index
