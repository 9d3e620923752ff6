use Rattle.std.proofs.Common.{take}
use Rattle.rm_history.specs.Acts.{acts_of}
use Rattle.rm_recovery.specs.Redone.{Redoes}
use Rattle.rm_recovery.proofs.redo.redo_all.Given as goal

abbrev pub invariant-loop-logged : goal.invariant-loop-logged
invariant-loop-logged l = Redoes l.pages (acts_of (take l.logged-index l.records)) l.redone
