use Rattle.rm_desk.proofs.Standing.{no_txn, begins_keep}
use Rattle.rm_desk.proofs.desk.Desk.begin.Goals as goal

pub begin-requires-clause-free : goal.begin-requires-clause-free
begin-requires-clause-free c = no_txn _ _ _ c.self.invariant _ (rw (← c.self.view_is) at c.requires.known) (rw (← c.self.view_is) at c.requires.none)

pub invariant_of-self : goal.invariant_of-self
invariant_of-self c = rw (c.set.ensures, c.of-self-inside.ensures)
    (begins_keep _ _ _ c.self.invariant _ (rw (← c.self.view_is) at c.requires.known) _ _ (rw (← c.self.view_is) at c.requires.none) c.in-Ok.ensures.given.0 c.in-Ok.ensures.begun)
