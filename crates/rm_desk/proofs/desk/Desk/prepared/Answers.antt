use Rattle.rm_core.proofs.Sizes.{next_above}
use Rattle.rm_desk.proofs.Names.{refl, sym, ◌∙◌}
use Rattle.rm_desk.proofs.Standing.{own_of}
use Rattle.rm_desk.proofs.Undoing.{last_at, none_at, prepare_keeps}
use Rattle.rm_desk.proofs.desk.Desk.prepared.Goals as goal

pub invariant_of-self : goal.invariant_of-self
invariant_of-self c =
    let l = last_at _ _ _ c.self.invariant _ (rw (← c.self.view_is) at c.requires.known) _ c.in-Some.last (own_of _ _ _ c.self.invariant _ (rw (← c.self.view_is) at c.requires.known) (rw (← c.self.view_is) at c.requires.active)) (sym c.in-Some.is ∙ c.newest.ensures) in
    rw (c.set.ensures, c.of-self-inside.ensures) (prepare_keeps _ _ _ c.self.invariant _ (rw (← c.self.view_is) at c.requires.known) _ _ l _ _ (next_above _ _ (rw (← c.self.view_is) at c.requires.next)) (rw (← c.self.view_is) at c.requires.open))

pub returns-in-Some : goal.returns-in-Some
returns-in-Some c =
    let l = last_at _ _ _ c.self.invariant _ (rw (← c.self.view_is) at c.requires.known) _ c.in-Some.last (own_of _ _ _ c.self.invariant _ (rw (← c.self.view_is) at c.requires.known) (rw (← c.self.view_is) at c.requires.active)) (sym c.in-Some.is ∙ c.newest.ensures) in
    rw (c.of-self-inside.ensures, ← c.self.view_is, l.pending) refl

pub returns-in-None : goal.returns-in-None
returns-in-None c =
    let none = none_at _ _ _ c.self.invariant _ (rw (← c.self.view_is) at c.requires.known) (rw (← c.self.view_is) at c.requires.active) (sym c.in-None.is ∙ c.newest.ensures) in
    rw (← c.self.view_is, none) refl
