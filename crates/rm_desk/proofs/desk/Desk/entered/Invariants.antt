use Rattle.rm_desk.proofs.Names.{goes, logged, enters, entry_now, seat_at, idle}
use Rattle.rm_desk.proofs.desk.Desk.entered.Given as goal

abbrev pub ghost-of : goal.ghost-of
ghost-of a =
    goes (logged a._from.now.0.now (enters (entry_now a._from.now.1 a._from.now.0.now.history (seat_at a._from.now.0.now.seats a._from.now.2).txn a._from.now.3 a._from.now.4.0))) a._from.now.2 idle
