use Rattle.rm_latch.proofs.Latches.of.Goals as goal

pub returns-clause-compatible : goal.returns-clause-compatible
returns-clause-compatible c = rw (← c.self.view_is) c.self.invariant
