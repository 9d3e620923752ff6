use Rattle.rm_desk.proofs.Looking.{number_is}
use Rattle.rm_desk.proofs.desk.Desk.txn.Goals as goal

pub returns-clause-value : goal.returns-clause-value
returns-clause-value c = rw (← c.self.view_is) (number_is _ _ _ c.self.invariant _ (rw (← c.self.view_is) at c.requires) _ c.of.ensures.value)
