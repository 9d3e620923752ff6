use Rattle.rm_desk.proofs.Names.{goes, logged, changes, change_of, seat_at, Vacant, Row, row_in, stage_with, slice_index_or, Unbound, Settles, Inserted}
use Rattle.rm_desk.proofs.desk.Desk.inserted.Given as goal

abbrev pub ghost-of : goal.ghost-of
ghost-of a =
    goes (logged a._from.now.0.now (changes (change_of a._from.now.0.now.history (seat_at a._from.now.0.now.seats a._from.now.2).txn a._from.now.3 Vacant (Row (row_in (slice_index_or a._from.now.1.now a._from.now.2 Unbound))) a._from.now.4.0)))
    a._from.now.2 (stage_with (slice_index_or a._from.now.1.now a._from.now.2 Unbound) (Settles Inserted a._from.now.3))
