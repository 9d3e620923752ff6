use Rattle.std.proofs.Common.{sym}
use Rattle.std.proofs.lemmas.Result.{IfOk-weaker}
use Rattle.rm_history.specs.Acts.{act_of, acts_of}
use Rattle.rm_audit.proofs.Judging.{room_with, room_without}
use Rattle.rm_audit.proofs.audits.has_room.Goals as goal

pub returns-in-Some : goal.returns-in-Some
returns-in-Some c =
    λ before is. IfOk-weaker c.fits.result _ _
    (λ found on. room_with (act_of c.args.last.now) before (acts_of c.args.log.now) c.in-Some.page found is (sym c.in-Some.ensures) on) c.fits.ensures

pub returns-in-None : goal.returns-in-None
returns-in-None c =
    λ before is. room_without (act_of c.args.last.now) before (acts_of c.args.log.now) is (sym c.in-None.ensures)
