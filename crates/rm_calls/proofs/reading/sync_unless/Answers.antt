use Rattle.std.proofs.Common.{sym, subst}
use Rattle.rm_calls.specs.Steps.{Settles}
use Rattle.rm_calls.proofs.Outcomes.{settles}
use Rattle.rm_calls.proofs.reading.sync_unless.Goals as goal

pub returns-clause-settles : goal.returns-clause-settles
returns-clause-settles g c =
    subst (λ done. Settles g.S.Start.image c.args.area (g.C.Calls.history c.args.calls.now) (g.C.Calls.history c.sync.new.self) done) (sym c.is_done.ensures)
    (settles g.S.Start.image c.args.area (g.C.Calls.history c.args.calls.now) (c.requires.unless c.if-lost.false) c.sync.result c.sync.ensures.noted)
