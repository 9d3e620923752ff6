use Rattle.rm_desk.proofs.Names.{refl}
use Rattle.rm_desk.proofs.Standing.{has_txn, id_is, leaves_keep}
use Rattle.rm_desk.proofs.desk.Desk.leave.Goals as goal

pub id_of-txn-requires-clause-has : goal.id_of-txn-requires-clause-has
id_of-txn-requires-clause-has c = has_txn _ _ _ c.self.invariant _ (rw (← c.self.view_is) at c.requires.known) (rw (← c.self.view_is) at c.requires.active)

pub finish-requires-clause-has : goal.finish-requires-clause-has
finish-requires-clause-has c = has_txn _ _ _ c.self.invariant _ (rw (← c.self.view_is) at c.requires.known) (rw (← c.self.view_is) at c.requires.active)

pub invariant_of-self : goal.invariant_of-self
invariant_of-self c = rw (c.set.ensures, c.of-self-inside.ensures) (leaves_keep _ _ _ c.self.invariant _ (rw (← c.self.view_is) at c.requires.known) _ _ c.finish.ensures c.clear.ensures)

pub returns : goal.returns
returns c = let own = (id_is _ _ _ c.self.invariant _ (rw (← c.self.view_is) at c.requires.known) (rw (← c.self.view_is) at c.requires.active) c.id_of-txn.result c.id_of-txn.ensures) in rw (← c.self.view_is, c.of-self-inside.ensures, c.release.ensures, own.is) refl
