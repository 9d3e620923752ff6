use Rattle.rm_desk.proofs.desk.Desk.sessions.Goals as goal

pub returns-clause-known : goal.returns-clause-known
returns-clause-known c = rw (← c.self.view_is) c.self.invariant.sized
