use Rattle.rm_desk.proofs.Names.{◌∙◌, ap, arith, ℕ}
use Rattle.std.specs.Prelude.{nat_le}
use Rattle.rm_desk.proofs.Rooms.{begin_owes}
use Rattle.rm_desk.proofs.desk.Desk.has_room_to_begin.Goals as goal

pub returns : goal.returns
returns c = rw (← c.self.view_is)
    (let owes = begin_owes _ _ _ c.self.invariant _ (rw (← c.self.view_is) at c.requires.known) (rw (← c.self.view_is) at c.requires.none) in
    c.has_room.ensures ∙ ap (λ (n : ℕ). nat_le n c.self.inside.limit) (omega (arith, owes, c.owed.ensures.value, c.self.invariant.owes)))
