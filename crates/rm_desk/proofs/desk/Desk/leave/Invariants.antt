use Rattle.rm_desk.proofs.Names.{seated, empty_seat}
use Rattle.rm_desk.proofs.desk.Desk.leave.Given as goal

abbrev pub ghost-of : goal.ghost-of
ghost-of a = seated a._from.now.0.now a._from.now.1 empty_seat
