use Rattle.std.proofs.Common.{List, drop, length, refl, ap, ◌∙◌, arith}
use Rattle.rm_types.specs.declared.places.Place.{Place}
use Rattle.rm_recovery.specs.Undone.{IsStop}
use Rattle.rm_recovery.proofs.Stores.{goes_on, losers_less, newest_first, passed_on, same_losers_on, stepped_on, stops_later}
use Rattle.rm_recovery.proofs.undo.undo_all.Goals as goal

pub undo_newest-requires-clause-newest : goal.undo_newest-requires-clause-newest
undo_newest-requires-clause-newest g c =
    let first = c.in-Some.ensures.some in newest_first c.in-Some.place first.0 c.loop-place.invariant.losers first.1

pub returns-in_err-undo_newest-clause-damaged : goal.returns-in_err-undo_newest-clause-damaged
returns-in_err-undo_newest-clause-damaged g c =
    passed_on (IsStop (g.V.Volume.models_content c.undo_newest.new.store.journal.volume) c.args.store.now.frames.size c.args.store.now.journal.history) c.from_residual.result c.in_err-undo_newest.field-0.0 c.from_residual.ensures.1
    (stops_later _ c.loop-place.invariant.step c.undo_newest.ensures.step.modelled c.in_err-undo_newest.field-0.0 c.in_err-undo_newest.ensures.damaged)

pub loop-place-preserved : goal.loop-place-preserved
loop-place-preserved g c =
    let was = c.loop-place.invariant in
    let less = c.in_ok-undo_newest.ensures.pending in
    let first = c.in-Some.ensures.some in
    let kept = c.pop_front.ensures.rest ∙ ap (λ (l : List Place). drop 1 l) first.1 in
    record {
      step = stepped_on was.step c.undo_newest.ensures.step;
      goes = goes_on was.goes c.in_ok-undo_newest.ensures.goes;
      same = same_losers_on was.same less.0;
      losers = losers_less c.undo_newest.new.store.journal.history _ c.in-Some.place first.0 was.losers less first.1 kept refl refl;
      count = omega (arith, was.count, ap (λ (l : List Place). length l) first.1, ap (λ (l : List Place). length l) kept);
    }
