use Rattle.std.proofs.Common.{take, reverse}
use Rattle.rm_history.specs.Acts.{acts_of}
use Rattle.rm_audit.specs.Parts.{EachFollows}
use Rattle.rm_audit.proofs.entries.all_follow.Given as goal

abbrev pub invariant-loop-change : goal.invariant-loop-change
invariant-loop-change l = EachFollows l.format (acts_of l.log) (reverse (take l.change-index l.pending))
