use Rattle.rm_desk.proofs.Names.{refl}
use Rattle.rm_core.proofs.Sizes.{next_above}
use Rattle.rm_desk.proofs.Standing.{has_txn, id_is, ends_keep}
use Rattle.rm_desk.proofs.desk.Desk.ended.Goals as goal

pub id_of-txn-requires-clause-has : goal.id_of-txn-requires-clause-has
id_of-txn-requires-clause-has c = has_txn _ _ _ c.self.invariant _ (rw (← c.self.view_is) at c.requires.known) (rw (← c.self.view_is) at c.requires.active)

pub finish-requires-clause-has : goal.finish-requires-clause-has
finish-requires-clause-has c = has_txn _ _ _ c.self.invariant _ (rw (← c.self.view_is) at c.requires.known) (rw (← c.self.view_is) at c.requires.active)

pub invariant_of-self : goal.invariant_of-self
invariant_of-self c = rw (c.set.ensures, c.of-self-inside.ensures)
    (ends_keep _ _ _ c.self.invariant _ (rw (← c.self.view_is) at c.requires.known) _ _ _ _ _ (id_is _ _ _ c.self.invariant _ (rw (← c.self.view_is) at c.requires.known) (rw (← c.self.view_is) at c.requires.active) c.id_of-txn.result c.id_of-txn.ensures) (next_above _ _ (rw (← c.self.view_is) at c.requires.next)) (record { gone = c.release.ensures.needs; other_needs = c.release.ensures.other_needs; other_entries = c.release.ensures.other_entries }) c.finish.ensures c.clear.ensures)

pub returns : goal.returns
returns c = let own = (id_is _ _ _ c.self.invariant _ (rw (← c.self.view_is) at c.requires.known) (rw (← c.self.view_is) at c.requires.active) c.id_of-txn.result c.id_of-txn.ensures) in rw (← c.self.view_is, c.of-self-inside.ensures, c.release-2.ensures, own.is) refl
