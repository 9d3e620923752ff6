use Rattle.std.proofs.Common.{rules}
use Rattle.rm_recovery.proofs.Stages.{compensated_pending, compensated_step, number_some, undo_stops}
use Rattle.rm_recovery.proofs.undo.compensate.Goals as goal

pub undo_change-requires-clause-txn : goal.undo_change-requires-clause-txn
undo_change-requires-clause-txn g c = (number_some c.requires.newest, search rules)

pub returns-in-Ok-clause-step : goal.returns-in-Ok-clause-step
returns-in-Ok-clause-step g c =
    compensated_step c.args.store.now c.undo_change.new.store c.args.place c.requires.newest c.in-Ok.ensures.ok _ _ c.in-Ok.ensures.modelled c.requires.right c.in-Ok.ensures.undoes

pub returns-in-Ok-clause-pending : goal.returns-in-Ok-clause-pending
returns-in-Ok-clause-pending g c = compensated_pending c.args.store.now c.undo_change.new.store c.args.place c.requires.newest c.in-Ok.ensures.ok

pub returns-in-Err-clause-damaged : goal.returns-in-Err-clause-damaged
returns-in-Err-clause-damaged g c =
    undo_stops c.args.store.now c.args.place c.requires.newest c.requires.current (c.requires.next c.requires.known) _ _ c.in-Err.fault c.in-Err.ensures.modelled c.requires.right
    c.in-Err.ensures.damaged
