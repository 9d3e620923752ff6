use Rattle.std.proofs.Common.{arith}
use Rattle.rm_need.proofs.TotalLaws.{need_within_room}
use Rattle.rm_need.proofs.Needs.change.Goals as goal

pub overflow_cast-next : goal.overflow_cast-next
overflow_cast-next c =
    let within = need_within_room c.args.self.now c.args.page c.args.txn.0 _ c.requires.room in
    grind (arith, within)
