use Rattle.rm_desk.proofs.Names.{goes, logged, changes, change_of, seat_at, slot_at, page_of, new_slot, stage_with, slice_index_or, Unbound, Settles, Altered}
use Rattle.rm_desk.proofs.desk.Desk.altered.Given as goal

abbrev pub ghost-of : goal.ghost-of
ghost-of a =
    goes (logged a._from.now.0.now (changes (change_of a._from.now.0.now.history (seat_at a._from.now.0.now.seats a._from.now.2).txn a._from.now.3 (slot_at (page_of a._from.now.0.now.history a._from.now.3.page) a._from.now.3.slot) (new_slot (slice_index_or a._from.now.1.now a._from.now.2 Unbound)) a._from.now.4.0)))
    a._from.now.2 (stage_with (slice_index_or a._from.now.1.now a._from.now.2 Unbound) (Settles Altered a._from.now.3))
