use Rattle.std.proofs.Common.{take}
use Rattle.rm_history.specs.Acts.{acts_of}
use Rattle.rm_history.specs.Legal.{IsLegal}
use Rattle.rm_audit.proofs.audits.audit.Given as goal

abbrev pub invariant-loop-at : goal.invariant-loop-at
invariant-loop-at l = IsLegal l.format (acts_of (take l.at l.log))
