use Rattle.rm_desk.proofs.Names.{arith, ◌∙◌, ap, slice_index_or, Unbound}
use Rattle.rm_ops.proofs.Looking.{row_len_is}
use Rattle.rm_ops.specs.Looking.{row_len_of}
use Rattle.rm_desk.proofs.Changing.{insert_room}
use Rattle.rm_desk.proofs.desk.Desk.has_room_to_insert.Goals as goal

pub returns : goal.returns
returns c =
    let len = c.row_len.ensures ∙ ap row_len_of c.asked_at.ensures ∙ row_len_is (slice_index_or c.self.inside.ops c.args.k Unbound) in
    rw (← c.self.view_is)
    (insert_room _ _ _ c.self.invariant _ (rw (← c.self.view_is) at c.requires.known) (rw (← c.self.view_is) at c.requires.active) c.args.rid c.args.offset c.owed-owed.result _ _ (slice_index_or c.self.inside.ops c.args.k Unbound) (rw (← c.self.view_is) at c.requires.at) c.owed-owed.ensures.value c.has_room.ensures
    (omega (arith, len, c.from-len.ensures)))
