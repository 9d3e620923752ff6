use Rattle.rm_desk.proofs.Standing.{has_txn}
use Rattle.rm_desk.proofs.Saving.{save_keeps}
use Rattle.rm_desk.proofs.desk.Desk.save.Goals as goal

pub save-requires-clause-has : goal.save-requires-clause-has
save-requires-clause-has c = has_txn _ _ _ c.self.invariant _ (rw (← c.self.view_is) at c.requires.known) (rw (← c.self.view_is) at c.requires.active)

pub invariant_of-self-2 : goal.invariant_of-self-2
invariant_of-self-2 c = rw (c.set.ensures, c.of-self-inside.ensures)
    (save_keeps _ _ _ c.self.invariant _ (rw (← c.self.view_is) at c.requires.known) (rw (← c.self.view_is) at c.requires.active) _ _ (rw (← c.self.view_is) at c.requires.open) c.in_ok-save.ensures.ok)
