use Rattle.rm_desk.proofs.Standing.{has_txn}
use Rattle.rm_desk.proofs.Saving.{savepoint_is}
use Rattle.rm_desk.proofs.desk.Desk.savepoint.Goals as goal

pub target-requires-clause-has : goal.target-requires-clause-has
target-requires-clause-has c = has_txn _ _ _ c.self.invariant _ (rw (← c.self.view_is) at c.requires.known) (rw (← c.self.view_is) at c.requires.active)

pub returns : goal.returns
returns c = rw (← c.self.view_is) (savepoint_is _ _ _ c.self.invariant _ (rw (← c.self.view_is) at c.requires.known) (rw (← c.self.view_is) at c.requires.active) _ _ c.target.ensures)
