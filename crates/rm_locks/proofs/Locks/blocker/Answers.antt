use Rattle.rm_locks.proofs.Locks.blocker.Goals as goal

pub returns-clause-none : goal.returns-clause-none
returns-clause-none c = rw (← c.self.view_is) c.least_blocker.ensures.none
