use Rattle.std.proofs.Common.{take, reverse}
use Rattle.rm_audit.specs.Parts.{IsSomeOn}
use Rattle.rm_audit.proofs.entries.some_on.Given as goal

abbrev pub invariant-loop-change : goal.invariant-loop-change
invariant-loop-change l = IsSomeOn l.page (reverse (take l.change-index l.pending)) l.found
