use Rattle.std.proofs.Common.{sym, subst, ◌∙◌}
use Rattle.rm_calls.specs.Steps.{Puts}
use Rattle.rm_calls.proofs.Outcomes.{interrupted_loses_none, puts}
use Rattle.rm_calls.proofs.reading.write_unless.Goals as goal

pub loop-preserved : goal.loop-preserved
loop-preserved g c =
    let before = c.loop.invariant in
    record {
      writes = (puts before.writes before.lost c.write_some-answer.result c.write_some-answer.ensures.noted).writes;
      lost = λ other. interrupted_loses_none c.write_some-answer.result (sym c.is_interrupted.ensures ∙ c.if-not-is_interrupted.false) c.write_some-answer.ensures.noted other ∙ before.lost other;
    }

pub returns-then-not-is_interrupted-clause-puts : goal.returns-then-not-is_interrupted-clause-puts
returns-then-not-is_interrupted-clause-puts g c =
    subst (λ done. Puts g.S.Start.image c.args.area c.args.at c.args.from.now (g.C.Calls.history c.args.calls.now) (g.C.Calls.history c.write_some-answer.new.self) done) (sym c.is_whole.ensures)
    (puts c.loop.invariant.writes c.loop.invariant.lost c.write_some-answer.result c.write_some-answer.ensures.noted)

pub returns-clause-puts : goal.returns-clause-puts
returns-clause-puts g c =
    subst (λ done. Puts g.S.Start.image c.args.area c.args.at c.args.from.now (g.C.Calls.history c.args.calls.now) (g.C.Calls.history c.write_some.new.self) done) (sym c.is_whole-2.ensures)
    (puts c.loop.invariant.writes c.loop.invariant.lost c.write_some.result c.write_some.ensures.noted)
