use Rattle.std.proofs.Common.{sym, subst}
use Rattle.rm_calls.specs.Steps.{Comes}
use Rattle.rm_calls.proofs.Outcomes.{comes, more}
use Rattle.rm_calls.proofs.reading.read_piece.Goals as goal

pub loop-preserved : goal.loop-preserved
loop-preserved g c = more c.args.area c.args.at c.read_some-answer.new.into c.loop.invariant c.read_some-answer.result c.read_some-answer.ensures.noted

pub returns-then-not-is_interrupted : goal.returns-then-not-is_interrupted
returns-then-not-is_interrupted g c =
    subst (λ result. Comes g.S.Start.image c.args.area c.args.at c.read_some-answer.new.into (g.C.Calls.history c.args.calls.now) (g.C.Calls.history c.read_some-answer.new.self) result) (sym c.outcome.ensures)
    (comes c.args.area c.args.at c.read_some-answer.new.into c.loop.invariant c.read_some-answer.result c.read_some-answer.ensures.noted c.read_some-answer.ensures.bound)

pub returns : goal.returns
returns g c =
    subst (λ result. Comes g.S.Start.image c.args.area c.args.at c.read_some.new.into (g.C.Calls.history c.args.calls.now) (g.C.Calls.history c.read_some.new.self) result) (sym c.outcome-2.ensures)
    (comes c.args.area c.args.at c.read_some.new.into c.loop.invariant c.read_some.result c.read_some.ensures.noted c.read_some.ensures.bound)
