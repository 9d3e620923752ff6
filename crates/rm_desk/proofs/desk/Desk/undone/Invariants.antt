use Rattle.rm_desk.proofs.Names.{undone, aim_with, pending_of, seat_at, slice_index_or, Unbound}
use Rattle.rm_desk.proofs.desk.Desk.undone.Given as goal

abbrev pub ghost-of : goal.ghost-of
ghost-of g a =
    undone a._from.now.0.now a._from.now.2 (aim_with (slice_index_or a._from.now.1.now a._from.now.2 Unbound) a._from.now.3) a._from.now.4.0 g.back (pending_of a._from.now.0.now.history (seat_at a._from.now.0.now.seats a._from.now.2).txn)
