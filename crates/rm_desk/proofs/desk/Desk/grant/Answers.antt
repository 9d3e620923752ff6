use Rattle.rm_desk.proofs.Names.{refl, ◌∙◌}
use Rattle.rm_desk.proofs.Standing.{id_is}
use Rattle.rm_desk.proofs.desk.Desk.grant.Goals as goal

pub grant-requires-clause-free : goal.grant-requires-clause-free
grant-requires-clause-free c = let own = (id_is _ _ _ c.self.invariant _ (rw (← c.self.view_is) at c.requires.known) (rw (← c.self.view_is) at c.requires.active) c.id_of-txn.result c.id_of-txn.ensures) in rw c.ready.ensures.same (rw (← c.self.view_is, own.is) at c.requires.free)

pub returns-clause-ok : goal.returns-clause-ok
returns-clause-ok c = let own = (id_is _ _ _ c.self.invariant _ (rw (← c.self.view_is) at c.requires.known) (rw (← c.self.view_is) at c.requires.active) c.id_of-txn.result c.id_of-txn.ensures) in c.stand.ensures ∙ rw (← c.self.view_is, c.grant.ensures, c.ready.ensures.same, own.is) refl
