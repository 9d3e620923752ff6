use Rattle.rm_recovery.specs.Undone.{IsStop}
use Rattle.rm_recovery.proofs.Stores.{passed_on, stops_later}
use Rattle.rm_recovery.proofs.undo.undo_and_end.Goals as goal

pub returns-in_err-end_all-clause-damaged : goal.returns-in_err-end_all-clause-damaged
returns-in_err-end_all-clause-damaged g c =
    passed_on (IsStop (g.V.Volume.models_content c.end_all.new.store.journal.volume) c.args.store.now.frames.size c.args.store.now.journal.history) c.from_residual-in_err-end_all.result c.in_err-end_all.field-0.0 c.from_residual-in_err-end_all.ensures.1
    (stops_later _ c.undo_all.ensures.step c.end_all.ensures.step.modelled c.in_err-end_all.field-0.0 c.in_err-end_all.ensures.damaged)
