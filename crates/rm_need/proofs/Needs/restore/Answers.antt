use Rattle.std.proofs.Common.{Some, refl, arith}
use Rattle.rm_need.proofs.TotalLaws.{seen_totals, room_is, keeps_totals}
use Rattle.rm_need.proofs.Needs.restore.Goals as goal

pub overflow_add-total : goal.overflow_add-total
overflow_add-total c =
    let are = seen_totals _ _ _ c.self.view_is c.self.invariant in
    omega (arith, room_is _ _ _ c.args.txn.0 _ _ are (omega arith) c.others.ensures.sum c.requires.room)

pub invariant_of-self : goal.invariant_of-self
invariant_of-self c =
    let are = seen_totals _ _ _ c.self.view_is c.self.invariant in
    keeps_totals c.self.inside.entries c.write.new.map c.self.inside.totals c.write-2.new.map _ _ c.others.result _ (Some c.args.need) c.self.invariant
    c.write.ensures c.write-2.ensures _ c.self.view_is (omega arith) c.others.ensures.sum refl
    (room_is _ _ _ c.args.txn.0 _ _ are (omega arith) c.others.ensures.sum c.requires.room)
