use Rattle.std.proofs.Common.{below_more}
use Rattle.rm_session.proofs.Pages.{lacks_room_at}
use Rattle.rm_session.proofs.rows.first_with_room.Goals as goal

pub loop-number-preserved : goal.loop-number-preserved
loop-number-preserved c =
    below_more _ _ c.loop-number.invariant
    (lacks_room_at c.args.pages.now c.loop-number.number c.args.len c.index-pages-number.result c.loop-number-test.true c.index-pages-number.is c.has_room.result c.if-has_room.false c.has_room.ensures.1)
