use Rattle.std.proofs.Common.{sym, ◌∙◌}
use Rattle.rm_recovery.specs.Undone.{IsStop}
use Rattle.rm_recovery.proofs.Stores.{goes_on, known_less, passed_on, stepped_on, stops_later}
use Rattle.rm_recovery.proofs.undo.end_all.Goals as goal

pub loop-txn-preserved : goal.loop-txn-preserved
loop-txn-preserved g c =
    let was = c.loop-txn.invariant in
    let ended = c.in_ok-end_next.ensures.ended in
    let popped = sym was.losers ∙ c.in-Some.ensures.removal in
    record {
      step = stepped_on was.step c.end_next.ensures.step;
      goes = goes_on was.goes c.in_ok-end_next.ensures.goes;
      none = ended.none;
      greatest = ended.greatest ∙ was.greatest;
      losers = sym (ended.losers c.in-Some.txn c.pop_first.new.self.keys popped);
      known = known_less c.loop-txn.store.journal.history c.end_next.new.store.journal.history c.in-Some.txn c.pop_first.new.self.keys was.known popped ended;
    }

pub returns-in_err-end_next-clause-damaged : goal.returns-in_err-end_next-clause-damaged
returns-in_err-end_next-clause-damaged g c =
    passed_on (IsStop (g.V.Volume.models_content c.end_next.new.store.journal.volume) c.args.store.now.frames.size c.args.store.now.journal.history) c.from_residual.result c.in_err-end_next.field-0.0 c.from_residual.ensures.1
    (stops_later _ c.loop-txn.invariant.step c.end_next.ensures.step.modelled c.in_err-end_next.field-0.0 c.in_err-end_next.ensures.damaged)
