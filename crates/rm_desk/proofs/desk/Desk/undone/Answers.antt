use Rattle.rm_core.proofs.Sizes.{next_above}
use Rattle.rm_desk.proofs.Names.{refl, sym, ◌∙◌}
use Rattle.rm_desk.proofs.Standing.{has_txn, id_is}
use Rattle.rm_desk.proofs.Looking.{under_is}
use Rattle.rm_desk.proofs.Undoing.{last_at, none_at, undo_has_room, may_restore, has_entry, undo_owes, undo_keeps}
use Rattle.rm_desk.proofs.desk.Desk.undone.Goals as goal

pub id_of-txn-requires-clause-has : goal.id_of-txn-requires-clause-has
id_of-txn-requires-clause-has g c = has_txn _ _ _ c.self.invariant _ (rw (← c.self.view_is) at c.requires.0) (rw (← c.self.view_is) at c.requires.1.0)

pub restore-requires-clause-ready : goal.restore-requires-clause-ready
restore-requires-clause-ready g c =
    let l = last_at _ _ _ c.self.invariant _ (rw (← c.self.view_is) at c.requires.0) _ c.in-Some.last (id_is _ _ _ c.self.invariant _ (rw (← c.self.view_is) at c.requires.0) (rw (← c.self.view_is) at c.requires.1.0) c.id_of-txn.result c.id_of-txn.ensures) (sym c.in-Some.is ∙ c.newest.ensures) in
    (has_entry _ _ _ c.self.invariant _ (rw (← c.self.view_is) at c.requires.0) _ _ l _ (undo_has_room _ _ _ c.self.invariant _ (rw (← c.self.view_is) at c.requires.0) _ _ l _ (rw (← c.self.view_is) at c.requires.1.1.1.1.0) (rw (← c.self.view_is) at c.requires.1.1.1.1.1)))

pub restore-requires-clause-room : goal.restore-requires-clause-room
restore-requires-clause-room g c =
    let l = last_at _ _ _ c.self.invariant _ (rw (← c.self.view_is) at c.requires.0) _ c.in-Some.last (id_is _ _ _ c.self.invariant _ (rw (← c.self.view_is) at c.requires.0) (rw (← c.self.view_is) at c.requires.1.0) c.id_of-txn.result c.id_of-txn.ensures) (sym c.in-Some.is ∙ c.newest.ensures) in
    (may_restore _ _ _ c.self.invariant _ (rw (← c.self.view_is) at c.requires.0) _ _ l _ (undo_has_room _ _ _ c.self.invariant _ (rw (← c.self.view_is) at c.requires.0) _ _ l _ (rw (← c.self.view_is) at c.requires.1.1.1.1.0) (rw (← c.self.view_is) at c.requires.1.1.1.1.1)))

pub pop-requires-clause-owes : goal.pop-requires-clause-owes
pop-requires-clause-owes g c =
    let l = last_at _ _ _ c.self.invariant _ (rw (← c.self.view_is) at c.requires.0) _ c.in-Some.last (id_is _ _ _ c.self.invariant _ (rw (← c.self.view_is) at c.requires.0) (rw (← c.self.view_is) at c.requires.1.0) c.id_of-txn.result c.id_of-txn.ensures) (sym c.in-Some.is ∙ c.newest.ensures) in
    (undo_owes _ _ _ c.self.invariant _ (rw (← c.self.view_is) at c.requires.0) _ _ l _ (undo_has_room _ _ _ c.self.invariant _ (rw (← c.self.view_is) at c.requires.0) _ _ l _ (rw (← c.self.view_is) at c.requires.1.1.1.1.0) (rw (← c.self.view_is) at c.requires.1.1.1.1.1)) (rw (← c.self.view_is) at c.requires.1.1.1.0))

pub invariant_of-self : goal.invariant_of-self
invariant_of-self g c =
    let l = last_at _ _ _ c.self.invariant _ (rw (← c.self.view_is) at c.requires.0) _ c.in-Some.last (id_is _ _ _ c.self.invariant _ (rw (← c.self.view_is) at c.requires.0) (rw (← c.self.view_is) at c.requires.1.0) c.id_of-txn.result c.id_of-txn.ensures) (sym c.in-Some.is ∙ c.newest.ensures) in
    rw (c.set.ensures, c.of-self-inside.ensures)
    (undo_keeps _ _ _ c.self.invariant _ (rw (← c.self.view_is) at c.requires.0) _ _ l _ (undo_has_room _ _ _ c.self.invariant _ (rw (← c.self.view_is) at c.requires.0) _ _ l _ (rw (← c.self.view_is) at c.requires.1.1.1.1.0) (rw (← c.self.view_is) at c.requires.1.1.1.1.1)) _ _ _ _ c.under-below.result _ (next_above _ _ (rw (← c.self.view_is) at c.requires.1.1.0)) ((under_is _ _ _ c.self.invariant _ (rw (← c.self.view_is) at c.requires.0) (rw (← c.self.view_is) at c.requires.1.0) _ c.under-below.ensures).0) (rw (← c.self.view_is) at c.requires.1.1.1.0)
    (record { here = c.restore.ensures.need; elsewhere = c.restore.ensures.others; entries = c.restore.ensures.entries })
    c.pop.ensures c.pop-in-Some.ensures)

pub returns-in-Some : goal.returns-in-Some
returns-in-Some g c =
    let l = last_at _ _ _ c.self.invariant _ (rw (← c.self.view_is) at c.requires.0) _ c.in-Some.last (id_is _ _ _ c.self.invariant _ (rw (← c.self.view_is) at c.requires.0) (rw (← c.self.view_is) at c.requires.1.0) c.id_of-txn.result c.id_of-txn.ensures) (sym c.in-Some.is ∙ c.newest.ensures) in
    rw (c.of-self-inside.ensures, ← c.self.view_is, l.pending) refl

pub returns-in-None : goal.returns-in-None
returns-in-None g c =
    let none = none_at _ _ _ c.self.invariant _ (rw (← c.self.view_is) at c.requires.0) (rw (← c.self.view_is) at c.requires.1.0) (sym c.in-None.is ∙ c.newest.ensures) in
    rw (← c.self.view_is, none) refl
