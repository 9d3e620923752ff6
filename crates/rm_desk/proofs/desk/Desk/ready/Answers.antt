use Rattle.rm_desk.proofs.Standing.{room_keeps}
use Rattle.rm_desk.proofs.Rooms.{entries_stay, stacks_stay}
use Rattle.rm_desk.proofs.desk.Desk.ready.Goals as goal

pub invariant_of-self-2 : goal.invariant_of-self-2
invariant_of-self-2 c =
    room_keeps _ _ _ c.self.invariant _ (rw (← c.self.view_is) at c.requires.known) _ _ c.ready-2.ensures.needs (entries_stay _ _ _ _ _ c.ready-2.ensures.ok c.ready-2.ensures.others c.ready-2.ensures.err) (stacks_stay _ _ _ c.make_room.ensures.same)
