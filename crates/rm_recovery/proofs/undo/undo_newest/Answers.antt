use Rattle.rm_recovery.proofs.Stores.{stops_after}
use Rattle.rm_recovery.proofs.undo.undo_newest.Goals as goal

pub returns-clause-damaged : goal.returns-clause-damaged
returns-clause-damaged g c = stops_after _ c.settle.ensures.step c.take_back.ensures.step.modelled c.take_back.result c.take_back.ensures.damaged
