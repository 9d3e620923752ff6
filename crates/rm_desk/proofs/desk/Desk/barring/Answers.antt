use Rattle.rm_desk.proofs.Names.{arith, sym, ◌∙◌}
use Rattle.rm_desk.proofs.Looking.{first_some, more_passed}
use Rattle.rm_desk.proofs.desk.Desk.barring.Goals as goal

pub returns-then-bars-clause-value : goal.returns-then-bars-clause-value
returns-then-bars-clause-value c =
    first_some _ _ _ (omega (arith, c.sessions-j-end.ensures.known, c.sessions-j-end.ensures.value, c.loop-j-test.true)) c.loop-j.invariant.passed (sym c.bars.ensures ∙ c.if-bars.true)

pub loop-j-preserved : goal.loop-j-preserved
loop-j-preserved c = record { passed = more_passed _ _ c.loop-j.invariant.passed (sym c.bars.ensures ∙ c.if-bars.false) }
