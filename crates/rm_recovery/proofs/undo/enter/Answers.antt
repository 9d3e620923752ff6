use Rattle.std.proofs.Common.{rules}
use Rattle.rm_recovery.proofs.Stages.{has_newest, number_some, settle_stops, settled_pending, settled_right, settled_step}
use Rattle.rm_recovery.proofs.undo.enter.Goals as goal

pub undo_settle-requires-clause-txn : goal.undo_settle-requires-clause-txn
undo_settle-requires-clause-txn g c = (number_some c.requires.newest, search rules)

pub returns-in-Ok-clause-step : goal.returns-in-Ok-clause-step
returns-in-Ok-clause-step g c =
    settled_step c.args.store.now c.undo_settle.new.store c.args.place c.requires.newest _ _ c.in-Ok.field-0 c.in-Ok.ensures.ok c.in-Ok.ensures.modelled c.in-Ok.ensures.settles

pub returns-in-Ok-clause-pending : goal.returns-in-Ok-clause-pending
returns-in-Ok-clause-pending g c = settled_pending c.args.store.now c.undo_settle.new.store c.args.place c.requires.newest c.in-Ok.field-0 c.in-Ok.ensures.ok

pub returns-in-Ok-clause-right : goal.returns-in-Ok-clause-right
returns-in-Ok-clause-right g c = λ models.
    settled_right c.args.store.now c.undo_settle.new.store c.args.place c.requires.newest c.in-Ok.field-0 c.in-Ok.ensures.ok
    (c.in-Ok.ensures.settles models c.requires.newest.last (has_newest c.requires.newest))

pub returns-in-Err-clause-damaged : goal.returns-in-Err-clause-damaged
returns-in-Err-clause-damaged g c =
    settle_stops c.args.store.now c.args.place c.requires.newest c.requires.current (c.requires.next c.requires.known) _ c.in-Err.fault c.in-Err.ensures.damaged
