use Rattle.std.proofs.Common.{take, reverse}
use Rattle.rm_model.specs.Object.{Rows}
use Rattle.rm_history.specs.Rows.{applied}
use Rattle.rm_audit.specs.Rows.{HasRows}
use Rattle.rm_audit.proofs.rows.apply.Given as goal

abbrev pub invariant-loop-change : goal.invariant-loop-change
invariant-loop-change l = (before : Rows) → HasRows l.initial.rows before → HasRows l.rows (applied before (reverse (take l.change-index l.changes)))
