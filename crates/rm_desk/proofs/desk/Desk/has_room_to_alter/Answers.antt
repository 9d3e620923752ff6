use Rattle.rm_desk.proofs.Names.{arith, slice_index_or, Unbound}
use Rattle.rm_desk.proofs.Changing.{alter_room}
use Rattle.rm_desk.proofs.desk.Desk.has_room_to_alter.Goals as goal

pub returns : goal.returns
returns c =
    rw (← c.self.view_is)
    (alter_room _ _ _ c.self.invariant _ (rw (← c.self.view_is) at c.requires.known) (rw (← c.self.view_is) at c.requires.active) c.args.rid c.args.offset c.owed.result _ _ (slice_index_or c.self.inside.ops c.args.k Unbound) c.args.before _ (rw (← c.self.view_is) at c.requires.at)
    (rw (← c.self.view_is) at c.requires.held) c.new_bytes.ensures.value c.owed.ensures.value (rw c.from-before.ensures at c.has_room.ensures) (omega (arith, c.from-before.ensures)))
