use Rattle.rm_core.proofs.Sizes.{next_above}
use Rattle.rm_desk.proofs.Names.{refl, change_of, seat_at, Vacant, Row, row_in, slice_index_or, Unbound, state_of}
use Rattle.rm_desk.proofs.Standing.{has_txn, id_is, own_of}
use Rattle.rm_desk.proofs.Entries.{slot_free}
use Rattle.rm_desk.proofs.Changing.{insert_fits, change_room, change_goes, change_keeps, push_room, tries_open, is_open, slot_inside}
use Rattle.rm_desk.proofs.desk.Desk.inserted.Goals as goal

pub id_of-txn-requires-clause-has : goal.id_of-txn-requires-clause-has
id_of-txn-requires-clause-has c = has_txn _ _ _ c.self.invariant _ (rw (← c.self.view_is) at c.requires.known) (rw (← c.self.view_is) at c.requires.active)

pub change-need-requires-clause-ready : goal.change-need-requires-clause-ready
change-need-requires-clause-ready c = let own = (id_is _ _ _ c.self.invariant _ (rw (← c.self.view_is) at c.requires.known) (rw (← c.self.view_is) at c.requires.active) c.id_of-txn.result c.id_of-txn.ensures) in rw (← own.is) (rw (← c.self.view_is) at c.requires.ready).need

pub change-need-requires-clause-room : goal.change-need-requires-clause-room
change-need-requires-clause-room c =
    let own = (id_is _ _ _ c.self.invariant _ (rw (← c.self.view_is) at c.requires.known) (rw (← c.self.view_is) at c.requires.active) c.id_of-txn.result c.id_of-txn.ensures) in
    rw (← own.is, c.row_len-after.ensures) (change_room _ _ _ c.self.invariant _ (rw (← c.self.view_is) at c.requires.known) (change_of c.self.inside.sessions.history (seat_at c.self.inside.sessions.seats c.args.k).txn c.args.rid Vacant (Row (row_in (slice_index_or c.self.inside.ops c.args.k Unbound))) c.args.lsn.0) (own_of _ _ _ c.self.invariant _ (rw (← c.self.view_is) at c.requires.known) (rw (← c.self.view_is) at c.requires.active)) ((insert_fits (state_of c.self.inside.sessions c.self.inside.grants.grants) (seat_at c.self.inside.sessions.seats c.args.k) _ c.args.rid c.args.lsn.0 c.self.invariant.kept.fits (rw (← c.self.view_is) at c.requires.slot) (rw (← c.self.view_is) at c.requires.fits)) c.args.rid.page))

pub push-requires-2-clause-has : goal.push-requires-2-clause-has
push-requires-2-clause-has c = has_txn _ _ _ c.self.invariant _ (rw (← c.self.view_is) at c.requires.known) (rw (← c.self.view_is) at c.requires.active)

pub push-requires-2-clause-open : goal.push-requires-2-clause-open
push-requires-2-clause-open c = is_open _ _ _ c.self.invariant _ (rw (← c.self.view_is) at c.requires.known) (tries_open _ _ _ c.self.invariant _ (rw (← c.self.view_is) at c.requires.known) _ _ (rw (← c.self.view_is) at c.requires.at))

pub push-requires-2-clause-room : goal.push-requires-2-clause-room
push-requires-2-clause-room c = push_room _ _ _ c.self.invariant _ (rw (← c.self.view_is) at c.requires.known) (change_of c.self.inside.sessions.history (seat_at c.self.inside.sessions.seats c.args.k).txn c.args.rid Vacant (Row (row_in (slice_index_or c.self.inside.ops c.args.k Unbound))) c.args.lsn.0) (own_of _ _ _ c.self.invariant _ (rw (← c.self.view_is) at c.requires.known) (rw (← c.self.view_is) at c.requires.active)) _ _ (tries_open _ _ _ c.self.invariant _ (rw (← c.self.view_is) at c.requires.known) _ _ (rw (← c.self.view_is) at c.requires.at)) refl refl (rw (← c.self.view_is) at c.requires.room)

pub grant-requires-clause-ready : goal.grant-requires-clause-ready
grant-requires-clause-ready c = let own = (id_is _ _ _ c.self.invariant _ (rw (← c.self.view_is) at c.requires.known) (rw (← c.self.view_is) at c.requires.active) c.id_of-txn.result c.id_of-txn.ensures) in rw (← own.is) (rw (← c.self.view_is) at c.requires.ready).lock

pub grant-requires-clause-free : goal.grant-requires-clause-free
grant-requires-clause-free c =
    let own = (id_is _ _ _ c.self.invariant _ (rw (← c.self.view_is) at c.requires.known) (rw (← c.self.view_is) at c.requires.active) c.id_of-txn.result c.id_of-txn.ensures) in
    rw (← own.is) (slot_free (state_of c.self.inside.sessions c.self.inside.grants.grants) (seat_at c.self.inside.sessions.seats c.args.k) _ (rw (← c.self.view_is) at c.requires.slot))

pub grant-requires-clause-inside : goal.grant-requires-clause-inside
grant-requires-clause-inside c = slot_inside c.self.inside.sessions.history (change_of c.self.inside.sessions.history (seat_at c.self.inside.sessions.seats c.args.k).txn c.args.rid Vacant (Row (row_in (slice_index_or c.self.inside.ops c.args.k Unbound))) c.args.lsn.0) (insert_fits (state_of c.self.inside.sessions c.self.inside.grants.grants) (seat_at c.self.inside.sessions.seats c.args.k) _ c.args.rid c.args.lsn.0 c.self.invariant.kept.fits (rw (← c.self.view_is) at c.requires.slot) (rw (← c.self.view_is) at c.requires.fits))

pub invariant_of-self : goal.invariant_of-self
invariant_of-self c =
    let own = (id_is _ _ _ c.self.invariant _ (rw (← c.self.view_is) at c.requires.known) (rw (← c.self.view_is) at c.requires.active) c.id_of-txn.result c.id_of-txn.ensures) in
    let mine = own_of _ _ _ c.self.invariant _ (rw (← c.self.view_is) at c.requires.known) (rw (← c.self.view_is) at c.requires.active) in
    let fits = (insert_fits (state_of c.self.inside.sessions c.self.inside.grants.grants) (seat_at c.self.inside.sessions.seats c.args.k) _ c.args.rid c.args.lsn.0 c.self.invariant.kept.fits (rw (← c.self.view_is) at c.requires.slot) (rw (← c.self.view_is) at c.requires.fits)) in
    rw (c.set.ensures, c.of-self-inside.ensures)
    (change_keeps _ _ _ c.self.invariant _ (rw (← c.self.view_is) at c.requires.known) (change_of c.self.inside.sessions.history (seat_at c.self.inside.sessions.seats c.args.k).txn c.args.rid Vacant (Row (row_in (slice_index_or c.self.inside.ops c.args.k Unbound))) c.args.lsn.0) mine _ _ _ c.args.lsn _ _ _ refl refl (rw own.is c.change-need.ensures.answer) refl (change_goes _ _ _ c.self.invariant _ (rw (← c.self.view_is) at c.requires.known) (change_of c.self.inside.sessions.history (seat_at c.self.inside.sessions.seats c.args.k).txn c.args.rid Vacant (Row (row_in (slice_index_or c.self.inside.ops c.args.k Unbound))) c.args.lsn.0) mine refl refl (next_above _ _ (rw (← c.self.view_is) at c.requires.next)) (rw (← c.self.view_is) at c.requires.inside) fits) fits
    (next_above _ _ (rw (← c.self.view_is) at c.requires.next)) (tries_open _ _ _ c.self.invariant _ (rw (← c.self.view_is) at c.requires.known) _ _ (rw (← c.self.view_is) at c.requires.at)) refl (rw (← c.self.view_is) at c.requires.inside) (rw (← c.self.view_is) at c.requires.ready).need
    (rw own.is (record { here = rw c.row_len-after.ensures at c.change-need.ensures.need; elsewhere = c.change-need.ensures.others; entries = c.change-need.ensures.entries }))
    c.push-2.ensures c.push.ensures)

pub returns : goal.returns
returns c = let own = (id_is _ _ _ c.self.invariant _ (rw (← c.self.view_is) at c.requires.known) (rw (← c.self.view_is) at c.requires.active) c.id_of-txn.result c.id_of-txn.ensures) in rw (← c.self.view_is, c.of-self-inside.ensures, c.grant.ensures, own.is) refl
