use Rattle.std.proofs.Common.{take}
use Rattle.rm_history.specs.Acts.{acts_of}
use Rattle.rm_history.specs.Rows.{rows_of_log}
use Rattle.rm_audit.specs.Rows.{HasRows}
use Rattle.rm_audit.proofs.rows.committed_rows.Given as goal

abbrev pub invariant-loop-at : goal.invariant-loop-at
invariant-loop-at l = HasRows l.rows (rows_of_log (acts_of (take l.at l.log)))
