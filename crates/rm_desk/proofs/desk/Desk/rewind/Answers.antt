use Rattle.rm_desk.proofs.Standing.{has_txn}
use Rattle.rm_desk.proofs.Saving.{has_place, rewind_keeps}
use Rattle.rm_desk.proofs.desk.Desk.rewind.Goals as goal

pub back-requires-clause-has : goal.back-requires-clause-has
back-requires-clause-has c = has_txn _ _ _ c.self.invariant _ (rw (← c.self.view_is) at c.requires.known) (rw (← c.self.view_is) at c.requires.active)

pub back-requires-clause-there : goal.back-requires-clause-there
back-requires-clause-there c = has_place _ _ _ c.self.invariant _ (rw (← c.self.view_is) at c.requires.known) (rw (← c.self.view_is) at c.requires.active) _ c.args.at (rw (← c.self.view_is) at c.requires.saved)

pub invariant_of-self : goal.invariant_of-self
invariant_of-self c = rw (c.set.ensures, c.of-self-inside.ensures)
    (rewind_keeps _ _ _ c.self.invariant _ (rw (← c.self.view_is) at c.requires.known) (rw (← c.self.view_is) at c.requires.active) _ _ _ (rw (← c.self.view_is) at c.requires.open) c.back.ensures)
