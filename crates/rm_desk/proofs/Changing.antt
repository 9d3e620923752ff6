-- The tables stand for the sessions after a change of a slot.
use Rattle.rm_desk.proofs.Names.{◌≡◌, ℕ, ◌+◌, ◌-◌, ◌<◌, ◌≤◌, ◌↔◌, ◌⊎◌, inl, inr, false, true, List, ◌∷◌, map, length, Option, Some, None, option_map, refl, sym, ap}
use Rattle.rm_desk.proofs.Names.{◌∙◌, arith, nat_tests, cases_eq, eq-eqb, ne_eqb, Lsn, row_length, sum_below-same, Change, History, changes, newest_lsn, need_of, Fits, FitsOn}
use Rattle.rm_desk.proofs.Names.{pending_of, need_of-change, need_of-change_other, pending_on-change, pending-change, pending-change_other, last_is_inside}
use Rattle.rm_desk.proofs.Names.{staged, Seat, seat_at, Reserved, need_in, HasEntry, with_need, HasRoom, IsOther, Txn, Table, txn_of, ChangesOnly, HasId}
use Rattle.rm_desk.proofs.Names.{after_push, Stage, Setting, Sessions, Tables, is_over, IsOfFile, seat_from, pending_by, stage_at, goes, logged, IsOn, Accounts, Goes, MAX_SLOT}
use Rattle.rm_desk.proofs.Names.{StackValue, PendingChange, stack_at, SetsStack, noted_of, owed_in, owed_by, TXN_BYTES, page_of, Rid, Slot, Vacant, Row, slot_at}
use Rattle.rm_desk.proofs.Names.{State, slot_for, new_slot, row_in, length_in, Op, fitting_is_room, change_of}
use Rattle.rm_desk.proofs.Names.{unwrap_or, asked_by, last_of, ForSome, OWED, ◌^◌}
use Rattle.std.specs.Prelude.{nat_le, MatchOption, Bool}
use Rattle.rm_core.specs.Names.{size_of}
use Rattle.rm_desk.proofs.Rooms.{insert_bytes, alter_bytes, length_is}
use Rattle.rm_core.specs.Names.{end_of, CHANGE_COST}
use Rattle.rm_txns.specs.Tables.{owed_by as total_of}
use Rattle.rm_events.specs.declared.operations.Op.TheVariants as ops
use Rattle.rm_ops.specs.Looking.{new_len_of}
use Rattle.std.proofs.lemmas.Bool.{leb-true}
use Rattle.rm_model.proofs.Slots.{length_within}
use Rattle.rm_core.specs.Names as core
use Rattle.rm_play.specs.Choosing.{row_fits, growth_fits}
use Rattle.rm_play.proofs.Finding.{slot_is_for_row}
use Rattle.rm_desk.specs.Desks.{Stands}
use Rattle.rm_desk.proofs.Keeping.{change_kept}
use Rattle.rm_desk.proofs.Standing.{with_op, moved_to, moved, owed_moves, only_now, seat_now, own_id, own_of, IsIdOf, elsewhere, stage_is}

-- where a page fits with the needs of a history, so it does with one need of it that is set in the table
pub has_room : (needs : Reserved) (history : History) (page txn need : ℕ) → need ≡ need_of history txn page
    → ((other : ℕ) → (other ≡ txn → ⊥) → need_in needs page other ≡ need_of history other page) → FitsOn history page → HasRoom needs page txn need
has_room needs history page txn need is others fits n =
    omega (
      arith,
      fits n,
      sum_below-same (λ other. need_of history other page) (with_need needs page txn need) n
          (λ other below. elim (cases_eq other txn) [ inl same ↦ rw (eq-eqb other txn same, same) is | inr differs ↦ rw (ne_eqb other txn differs) (others other differs) ]),
    )

-- the needs after one of them is set
pub record Sets (needs left : Reserved) (page txn need : ℕ) : Type 0 where
  pub here : need_in left page txn ≡ need
  pub elsewhere : (at by : ℕ) → IsOther at by page txn → need_in left at by ≡ need_in needs at by
  pub entries : (at by : ℕ) → HasEntry left at by ↔ HasEntry needs at by

-- a change as it is kept
noted_is : (c : Change) (lsn : Lsn) (need before : ℕ) → c.lsn ≡ lsn.0 → row_length c.before ≡ before → need ≡ c.need
    → record { lsn = lsn; rid = c.rid; need = need; before = before } ≡ noted_of c
noted_is c lsn need before l b n = rw (l, b, n) refl

pub new_length_is : (op : Op) → unwrap_or (new_len_of (asked_by op)) 0 ≡ row_length (new_slot op)
new_length_is (ops.Update rid row) = refl
new_length_is other = refl

-- a session that changes a slot has no commit record
pub sets_open : (m : Setting) (t : Tables) (s : Sessions) → Stands m t s → (k : ℕ) → k < length s.seats → (rid : Rid) (new : Slot)
    → (seat_at s.seats k).stage ≡ core.sets rid new → is_over (seat_at s.seats k).stage ≡ false
sets_open m t s stands k known rid new is = ap is_over is

pub tries_open : (m : Setting) (t : Tables) (s : Sessions) → Stands m t s → (k : ℕ) → k < length s.seats → (row : List ℕ) (page : ℕ)
    → (seat_at s.seats k).stage ≡ core.tries row page → is_over (seat_at s.seats k).stage ≡ false
tries_open m t s stands k known row page is = ap is_over is

pub is_open : (m : Setting) (t : Tables) (s : Sessions) → Stands m t s → (k : ℕ) → k < length s.seats → is_over (seat_at s.seats k).stage ≡ false
    → ForSome (txn_of t.table (k + 1)) (λ txn. txn.committed ≡ false)
is_open m t s stands k known going txn is =
    let old = stands.sits k (omega (arith, known, stands.sized)) in
    (rw is at old.accounted).over ∙ ap is_over (sym (stage_is m t s stands k known)) ∙ going

-- ---- which changes fit

pub insert_fits : (s : State) (seat : Seat) (row : List ℕ) (rid : Rid) (lsn : ℕ) → Fits s.history → rid.slot ≡ slot_for s seat rid.page
    → row_fits s seat rid.page rid.slot (length row) ≡ true → Fits (changes (change_of s.history seat.txn rid Vacant (Row row) lsn) ∷ s.history)
insert_fits s seat row rid lsn fits slot room =
    let vacant : slot_at (page_of s.history rid.page) rid.slot ≡ Vacant = rw slot (slot_is_for_row s seat rid.page).vacant in
    (fitting_is_room.row s.history (change_of s.history seat.txn rid Vacant (Row row) lsn) row fits vacant refl refl).0 (leb-true _ _ room)

pub alter_fits : (s : State) (seat : Seat) (op : Op) (rid : Rid) (before lsn : ℕ) → Fits s.history → length_in (slot_at (page_of s.history rid.page) rid.slot) ≡ Some before
    → (new_slot op ≡ Vacant) ⊎ (growth_fits s seat rid.page (length (row_in op) - before) ≡ true)
    → Fits (changes (change_of s.history seat.txn rid (slot_at (page_of s.history rid.page) rid.slot) (new_slot op) lsn) ∷ s.history)
alter_fits s seat op rid before lsn fits held room = by (slot_at (page_of s.history rid.page) rid.slot) refl held (new_slot op) (row_is op) room
  where
    row_is : (op : Op) → (new_slot op ≡ Vacant) ⊎ (new_slot op ≡ Row (row_in op))
    row_is op = grind (arith, nat_tests)

    by : (old : Slot) → slot_at (page_of s.history rid.page) rid.slot ≡ old → length_in old ≡ Some before → (new : Slot) → (new ≡ Vacant) ⊎ (new ≡ Row (row_in op))
        → (new ≡ Vacant) ⊎ (growth_fits s seat rid.page (length (row_in op) - before) ≡ true) → Fits (changes (change_of s.history seat.txn rid old new lsn) ∷ s.history)
    by Vacant is held new now room = absurd cc
    by (Row old) is held Vacant now room = fitting_is_room.delete s.history (change_of s.history seat.txn rid (Row old) Vacant lsn) old fits is refl refl
    by (Row old) is held (Row new) now (inl never) = absurd cc
    by (Row old) is held (Row new) now (inr room) =
        let same : before ≡ length old = cc in
        let row : row_in op ≡ new = elim now [ inl never ↦ absurd cc | inr is ↦ cc ] in
        (fitting_is_room.growth s.history (change_of s.history seat.txn rid (Row old) (Row new) lsn) old new fits is refl refl).0
        (leb-true _ _ (rw (row, same) at room))

pub slot_inside : (history : History) (c : Change) → Fits (changes c ∷ history) → c.rid.slot ≤ MAX_SLOT
slot_inside history c fits =
    omega (
      arith,
      fits c.rid.page 0,
      length_within (page_of (changes c ∷ history) c.rid.page),
      last_is_inside (changes c ∷ history) c.txn c (pending_of history c.txn) (pending-change c history),
    )

module _ (m : Setting) (t : Tables) (s : Sessions) (stands : Stands m t s) (k : ℕ) (known : k < length s.seats) (c : Change) (own : IsIdOf m t s stands k known c.txn) where
  abbrev after : History
  after = changes c ∷ s.history

  abbrev its : Option Txn
  its = txn_of t.table (k + 1)

  abbrev at : core.Stage
  at = stage_at t k

  need_after : (need_in t.needs c.rid.page c.txn + row_length c.before) - row_length c.after ≡ need_of after c.txn c.rid.page
  need_after = ap (λ n. (n + row_length c.before) - row_length c.after) (stands.needed c.rid.page c.txn) ∙ sym (need_of-change s.history c c.rid.page refl)

  pub change_room : FitsOn after c.rid.page → HasRoom t.needs c.rid.page c.txn ((need_in t.needs c.rid.page c.txn + row_length c.before) - row_length c.after)
  change_room fits = has_room t.needs after c.rid.page c.txn _ need_after
      (λ other differs. stands.needed c.rid.page other ∙ sym (need_of-change_other s.history c other c.rid.page (λ same. differs (sym same)))) fits

  -- what all owe after it
  pub change_owes : (stage : core.Stage) → is_over (seat_at s.seats k).stage ≡ false → is_over stage ≡ false
      → owed_in (goes (logged s (changes c)) k stage) ≡ owed_in s + (TXN_BYTES + row_length c.before)
  change_owes stage going over =
      let moves = owed_moves m t s stands k known after (staged (seat_at s.seats k) stage) s.next (λ j id apart has. pending-change_other c s.history id (elsewhere m t s stands k known c.txn own j id apart has)) in
      omega (arith, moves, owes (seat_at s.seats k) own.is going)
    where
      owes : (seat : Seat) → seat.txn ≡ c.txn → is_over seat.stage ≡ false → owed_by after (staged seat stage) ≡ owed_by s.history seat + (TXN_BYTES + row_length c.before)
      owes seat is going = grind (arith, nat_tests, own.given, pending-change c s.history)

  pub change_goes : c.under ≡ last_of (pending_of s.history c.txn) → c.need ≡ need_of s.history c.txn c.rid.page → newest_lsn s.history < c.lsn → c.rid.page < m.pages → Fits after
      → Goes m.pages c (pending_of s.history c.txn)
  change_goes under need above inside fits = record {
    under = under;
    falls = omega (arith, stands.kept.below c.txn, above);
    need = need;
    inside = (inside, slot_inside s.history c fits);
  }

  -- what all owe then is within the limit of the log
  pub push_room : (stage : core.Stage) (before : ℕ) → is_over (seat_at s.seats k).stage ≡ false → is_over stage ≡ false → row_length c.before ≡ before
      → nat_le (end_of after + CHANGE_COST + owed_in (goes (logged s (changes c)) k stage)) m.limit ≡ true → total_of t.table + OWED + before ≤ 2 ^ 63
  push_room stage before going over before_is room = omega (arith, leb-true _ _ room, change_owes stage going over, stands.owes, stands.bounds.1, before_is)

  pub change_keeps : (next : Table) (left : Reserved) (stacks : List StackValue) (lsn : Lsn) (need before : ℕ) (stage : Stage) → c.lsn ≡ lsn.0 → row_length c.before ≡ before
      → need ≡ need_in t.needs c.rid.page c.txn → c.need ≡ need_of s.history c.txn c.rid.page → Goes m.pages c (pending_of s.history c.txn) → Fits after
      → newest_lsn s.history < c.lsn → is_over (seat_at s.seats k).stage ≡ false → is_over (with_op t k stage) ≡ false → IsOfFile m.pages (with_op t k stage)
      → HasEntry t.needs c.rid.page c.txn → Sets t.needs left c.rid.page c.txn ((need_in t.needs c.rid.page c.txn + row_length c.before) - row_length c.after)
      → ChangesOnly t.table next (k + 1) (option_map (after_push lsn before) its)
      → SetsStack t.stacks stacks k (record { lsn = lsn; rid = c.rid; need = need; before = before } ∷ (stack_at t.stacks k).changes)
      → Stands m (moved_to t next left stacks k stage) (goes (logged s (changes c)) k (with_op t k stage))
  change_keeps next left stacks lsn need before stage lsn_is before_is need_is logged_need chain fits above going over inside ready sets only stacked =
      let old = stands.sits k (omega (arith, known, stands.sized)) in
      let txn = option_map (after_push lsn before) its in
      let going_at : is_over at ≡ false = ap is_over (sym (stage_is m t s stands k known)) ∙ going in
      let noted = noted_is c lsn need before lsn_is before_is (need_is ∙ stands.needed c.rid.page c.txn ∙ sym logged_need) in
      rw (seat_now m t s stands k known (with_op t k stage) ∙ seat_is its)
      (moved m t s stands k known next left stacks txn stage after s.next (record {
        only = only_now m t s stands k known next txn only;
        more = omega (arith, stands.next);
        own = own_id m t s stands k known txn (same its);
        others = λ j other apart has. pending-change_other c s.history other (elsewhere m t s stands k known c.txn own j other apart has);
        stacks_are = record { here = stacked.here ∙ ap (λ (p : PendingChange). p ∷ (stack_at t.stacks k).changes) noted ∙ ap (λ (l : List PendingChange). noted_of c ∷ l) old.stacked ∙ sym (pends its own.has); others = stacked.others };
        accounted = accounted its own.has going_at old.accounted;
        of_file = inside;
        needed = needed;
        there = there;
        kept = change_kept m.pages s.next s.history c own.given.1 above chain fits stands.kept;
      }))
    where
      seat_is : (txn : Option Txn) → seat_from txn (with_op t k stage) ≡ seat_from (option_map (after_push lsn before) txn) (with_op t k stage)
      seat_is txn = grind (arith, nat_tests)

      same : (txn : Option Txn) (id : ℕ) → HasId (option_map (after_push lsn before) txn) id → HasId txn id
      same txn id has = grind (arith, nat_tests)

      pends : (txn : Option Txn) → HasId txn c.txn → map noted_of (pending_by after (option_map (after_push lsn before) txn)) ≡ noted_of c ∷ map noted_of (pending_by s.history txn)
      pends None has = absurd has
      pends (Some txn) has = rw (has, pending-change c s.history)

      accounted : (txn : Option Txn) → HasId txn c.txn → is_over at ≡ false → Accounts s.history at txn
          → Accounts after (with_op t k stage) (option_map (after_push lsn before) txn)
      accounted txn has going is = grind (arith, nat_tests, pending-change)

      needed : (page id : ℕ) → need_in left page id ≡ need_of after id page
      needed page id = grind (arith, nat_tests, sets, stands.needed, need_after, pending_on-change, need_of-change_other)

      there : (page id : ℕ) → IsOn (pending_of after id) page → HasEntry left page id
      there page id on = grind (arith, nat_tests, sets, stands.there, ready, pending-change, pending-change_other)

-- ---- the rule of log room

insert_size : (history : History) (txn : ℕ) (rid : Rid) (row : List ℕ) (lsn : ℕ) → size_of (changes (change_of history txn rid Vacant (Row row) lsn)) ≡ 23 + length row
unfolding size_of
insert_size history txn rid row lsn = insert_bytes txn (last_of (pending_of history txn)) rid (need_of history txn rid.page) row

alter_size : (history : History) (txn : ℕ) (rid : Rid) (old new : Slot) (lsn before more : ℕ) → length_in old ≡ Some before → MatchOption (length_in new) (more ≡ 0) (λ len. more ≡ 2 + len)
    → size_of (changes (change_of history txn rid old new lsn)) ≡ 23 + before + more
unfolding size_of
alter_size history txn rid old new lsn before more held is = alter_bytes txn (last_of (pending_of history txn)) rid (need_of history txn rid.page) old new before more held is

module _ (m : Setting) (t : Tables) (s : Sessions) (stands : Stands m t s) (k : ℕ) (known : k < length s.seats) (some : (seat_at s.seats k).txn ≡ 0 → ⊥) (rid : Rid) (lsn owed bytes : ℕ) (fits : Bool) where
  pub insert_room : (op : Op) → (seat_at s.seats k).stage ≡ core.tries (row_in op) rid.page → owed ≡ total_of t.table → fits ≡ nat_le (lsn + (bytes + (owed + OWED))) m.limit
      → bytes ≡ 55 + length (row_in op)
      → fits ≡ nat_le (end_of (changes (change_of s.history (seat_at s.seats k).txn rid Vacant (Row (row_in op)) lsn) ∷ s.history) + CHANGE_COST
      + owed_in (goes (logged s (changes (change_of s.history (seat_at s.seats k).txn rid Vacant (Row (row_in op)) lsn))) k (core.settles (core.inserted (row_in op) rid) rid.page))) m.limit
  insert_room op at owed_is is bytes_are =
      let c = change_of s.history (seat_at s.seats k).txn rid Vacant (Row (row_in op)) lsn in
      let owes = change_owes m t s stands k known c (own_of m t s stands k known some) (core.settles (core.inserted (row_in op) rid) rid.page) (ap is_over at) refl in
      let size = insert_size s.history (seat_at s.seats k).txn rid (row_in op) lsn in
      is ∙ ap (λ (n : ℕ). nat_le n m.limit) (omega (arith, owes, size, owed_is, stands.owes, bytes_are))

  pub alter_room : (op : Op) (before more : ℕ) → (seat_at s.seats k).stage ≡ core.sets rid (new_slot op) → length_in (slot_at (page_of s.history rid.page) rid.slot) ≡ Some before
      → MatchOption (length_in (new_slot op)) (more ≡ 0) (λ len. more ≡ 2 + len) → owed ≡ total_of t.table → fits ≡ nat_le (lsn + (bytes + (owed + OWED + before))) m.limit
      → bytes ≡ 55 + before + more
      → fits ≡ nat_le (end_of (changes (change_of s.history (seat_at s.seats k).txn rid (slot_at (page_of s.history rid.page) rid.slot) (new_slot op) lsn) ∷ s.history) + CHANGE_COST
      + owed_in (goes (logged s (changes (change_of s.history (seat_at s.seats k).txn rid (slot_at (page_of s.history rid.page) rid.slot) (new_slot op) lsn))) k (core.settles (core.altered rid (new_slot op)) rid.page))) m.limit
  alter_room op before more at held more_is owed_is is bytes_are =
      let c = change_of s.history (seat_at s.seats k).txn rid (slot_at (page_of s.history rid.page) rid.slot) (new_slot op) lsn in
      let owes = change_owes m t s stands k known c (own_of m t s stands k known some) (core.settles (core.altered rid (new_slot op)) rid.page) (ap is_over at) refl in
      let size = alter_size s.history (seat_at s.seats k).txn rid (slot_at (page_of s.history rid.page) rid.slot) (new_slot op) lsn before more held more_is in
      let was = length_is (slot_at (page_of s.history rid.page) rid.slot) before held in
      is ∙ ap (λ (n : ℕ). nat_le n m.limit) (omega (arith, owes, size, was, owed_is, stands.owes, bytes_are))
