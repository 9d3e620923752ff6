use Rattle.rm_core.proofs.Sizes.{next_above}
use Rattle.rm_desk.proofs.Names.{refl, change_of, seat_at, slot_at, page_of, new_slot, slice_index_or, Unbound, state_of, []}
use Rattle.rm_desk.proofs.Standing.{has_txn, id_is, own_of}
use Rattle.rm_desk.proofs.Rooms.{length_is}
use Rattle.rm_desk.proofs.Changing.{alter_fits, change_room, change_goes, change_keeps, push_room, sets_open, is_open}
use Rattle.rm_desk.proofs.desk.Desk.altered.Goals as goal

pub id_of-txn-requires-clause-has : goal.id_of-txn-requires-clause-has
id_of-txn-requires-clause-has c = has_txn _ _ _ c.self.invariant _ (rw (← c.self.view_is) at c.requires.known) (rw (← c.self.view_is) at c.requires.active)

pub change-need-requires-clause-ready : goal.change-need-requires-clause-ready
change-need-requires-clause-ready c = let own = (id_is _ _ _ c.self.invariant _ (rw (← c.self.view_is) at c.requires.known) (rw (← c.self.view_is) at c.requires.active) c.id_of-txn.result c.id_of-txn.ensures) in rw (← own.is) (rw (← c.self.view_is) at c.requires.ready).need

pub change-need-requires-clause-room : goal.change-need-requires-clause-room
change-need-requires-clause-room c =
    let own = (id_is _ _ _ c.self.invariant _ (rw (← c.self.view_is) at c.requires.known) (rw (← c.self.view_is) at c.requires.active) c.id_of-txn.result c.id_of-txn.ensures) in
    rw (← own.is, c.new_len-after.ensures, ← (length_is _ _ (rw (← c.self.view_is) at c.requires.held))) (change_room _ _ _ c.self.invariant _ (rw (← c.self.view_is) at c.requires.known) (change_of c.self.inside.sessions.history (seat_at c.self.inside.sessions.seats c.args.k).txn c.args.rid (slot_at (page_of c.self.inside.sessions.history c.args.rid.page) c.args.rid.slot) (new_slot (slice_index_or c.self.inside.ops c.args.k Unbound)) c.args.lsn.0) (own_of _ _ _ c.self.invariant _ (rw (← c.self.view_is) at c.requires.known) (rw (← c.self.view_is) at c.requires.active)) ((alter_fits (state_of c.self.inside.sessions []) (seat_at c.self.inside.sessions.seats c.args.k) _ c.args.rid _ c.args.lsn.0 c.self.invariant.kept.fits (rw (← c.self.view_is) at c.requires.held) (rw (← c.self.view_is) at c.requires.fits)) c.args.rid.page))

pub push-requires-2-clause-has : goal.push-requires-2-clause-has
push-requires-2-clause-has c = has_txn _ _ _ c.self.invariant _ (rw (← c.self.view_is) at c.requires.known) (rw (← c.self.view_is) at c.requires.active)

pub push-requires-2-clause-open : goal.push-requires-2-clause-open
push-requires-2-clause-open c = is_open _ _ _ c.self.invariant _ (rw (← c.self.view_is) at c.requires.known) (sets_open _ _ _ c.self.invariant _ (rw (← c.self.view_is) at c.requires.known) _ _ (rw (← c.self.view_is) at c.requires.at))

pub push-requires-2-clause-room : goal.push-requires-2-clause-room
push-requires-2-clause-room c = push_room _ _ _ c.self.invariant _ (rw (← c.self.view_is) at c.requires.known) (change_of c.self.inside.sessions.history (seat_at c.self.inside.sessions.seats c.args.k).txn c.args.rid (slot_at (page_of c.self.inside.sessions.history c.args.rid.page) c.args.rid.slot) (new_slot (slice_index_or c.self.inside.ops c.args.k Unbound)) c.args.lsn.0) (own_of _ _ _ c.self.invariant _ (rw (← c.self.view_is) at c.requires.known) (rw (← c.self.view_is) at c.requires.active)) _ _ (sets_open _ _ _ c.self.invariant _ (rw (← c.self.view_is) at c.requires.known) _ _ (rw (← c.self.view_is) at c.requires.at)) refl (length_is _ _ (rw (← c.self.view_is) at c.requires.held)) (rw (← c.self.view_is) at c.requires.room)

pub invariant_of-self : goal.invariant_of-self
invariant_of-self c =
    let own = (id_is _ _ _ c.self.invariant _ (rw (← c.self.view_is) at c.requires.known) (rw (← c.self.view_is) at c.requires.active) c.id_of-txn.result c.id_of-txn.ensures) in
    let mine = own_of _ _ _ c.self.invariant _ (rw (← c.self.view_is) at c.requires.known) (rw (← c.self.view_is) at c.requires.active) in
    let fits = (alter_fits (state_of c.self.inside.sessions []) (seat_at c.self.inside.sessions.seats c.args.k) _ c.args.rid _ c.args.lsn.0 c.self.invariant.kept.fits (rw (← c.self.view_is) at c.requires.held) (rw (← c.self.view_is) at c.requires.fits)) in
    let before = (length_is _ _ (rw (← c.self.view_is) at c.requires.held)) in
    rw (c.set.ensures, c.of-self-inside.ensures)
    (change_keeps _ _ _ c.self.invariant _ (rw (← c.self.view_is) at c.requires.known) (change_of c.self.inside.sessions.history (seat_at c.self.inside.sessions.seats c.args.k).txn c.args.rid (slot_at (page_of c.self.inside.sessions.history c.args.rid.page) c.args.rid.slot) (new_slot (slice_index_or c.self.inside.ops c.args.k Unbound)) c.args.lsn.0) mine _ _ _ c.args.lsn _ _ _ refl before (rw own.is c.change-need.ensures.answer) refl (change_goes _ _ _ c.self.invariant _ (rw (← c.self.view_is) at c.requires.known) (change_of c.self.inside.sessions.history (seat_at c.self.inside.sessions.seats c.args.k).txn c.args.rid (slot_at (page_of c.self.inside.sessions.history c.args.rid.page) c.args.rid.slot) (new_slot (slice_index_or c.self.inside.ops c.args.k Unbound)) c.args.lsn.0) mine refl refl (next_above _ _ (rw (← c.self.view_is) at c.requires.next)) (rw (← c.self.view_is) at c.requires.inside) fits) fits
    (next_above _ _ (rw (← c.self.view_is) at c.requires.next)) (sets_open _ _ _ c.self.invariant _ (rw (← c.self.view_is) at c.requires.known) _ _ (rw (← c.self.view_is) at c.requires.at)) refl (rw (← c.self.view_is) at c.requires.inside) (rw (← c.self.view_is) at c.requires.ready).need
    (rw own.is (record { here = rw (c.new_len-after.ensures, ← before) at c.change-need.ensures.need; elsewhere = c.change-need.ensures.others; entries = c.change-need.ensures.entries }))
    c.push-2.ensures c.push.ensures)
