-- The tables stand for the sessions after a change is undone.
use Rattle.rm_desk.proofs.Names.{◌≡◌, ℕ, ◌+◌, ◌≤◌, ◌<◌, inl, false, true, List, [], ◌∷◌, map, length, Option, Some, None, IfSome, option_map, refl, sym, ap}
use Rattle.rm_desk.proofs.Names.{subst, ◌∙◌, arith, nat_tests, ForSome, Lsn, row_length, Change, Undo, History, undoes, newest_lsn, Slot, CAPACITY}
use Rattle.rm_desk.proofs.Names.{need_of, need_for, on_page, others_need, FitsOn, pending_of, undo_for, last_is_of, used, set_slot, page_of, undo_fits}
use Rattle.rm_desk.proofs.Names.{need_of-undo_other, pending_of-undo, pending_on-undo, pending-undo_other, TXN_BYTES, bytes_for}
use Rattle.rm_desk.proofs.Names.{seat_at, Reserved, need_in, HasEntry, HasRoom, Txn, OWED, Table, txn_of, ChangesOnly, HasId, after_pop, Setting, Sessions, Tables}
use Rattle.rm_desk.proofs.Names.{Rolls, Aim, aim_with, is_over, seat_from, pending_by, stage_at, undone, IsOn, IsAccounted, Accounts, AreKept, StackValue, PendingChange}
use Rattle.rm_desk.proofs.Names.{stack_at, SetsStack, noted_of, first_of, rest_of, newest_in, under_in, Unbound, slice_index_or, prepared, Compensates, enters, entry_for}
use Rattle.std.proofs.lemmas.Bool.{leb-true}
use Rattle.rm_model.proofs.Slots.{used-set_slot}
use Rattle.rm_core.specs.Names as core
use Rattle.rm_desk.specs.Desks.{Stands}
use Rattle.rm_desk.proofs.Keeping.{undo_kept, undo_fits_on, enter_kept}
use Rattle.rm_desk.proofs.Standing.{with_op, moved_to, moved, stays_keep, only_now, own_id, seat_now, IsIdOf, elsewhere, stage_is}
use Rattle.rm_desk.proofs.Looking.{newest_is}
use Rattle.rm_desk.proofs.Changing.{has_room, Sets}

module _ (m : Setting) (t : Tables) (s : Sessions) (stands : Stands m t s) (k : ℕ) (known : k < length s.seats) where
  -- the newest pending change of the session's transaction, as it is kept
  pub record Last (id : ℕ) (found : PendingChange) : Type 0 where
    pub last : Change
    pub rest : List Change
    pub pending : pending_of s.history (seat_at s.seats k).txn ≡ last ∷ rest
    pub own : IsIdOf m t s stands k known last.txn
    pub txn : last.txn ≡ id
    pub found_is : found ≡ noted_of last
    pub chain : AreKept m.pages (last ∷ rest)

  pub none_at : (some : (seat_at s.seats k).txn ≡ 0 → ⊥) → None ≡ first_of (stack_at t.stacks k).changes → pending_of s.history (seat_at s.seats k).txn ≡ []
  none_at some is = by (pending_of s.history (seat_at s.seats k).txn) (newest_is m t s stands k known some None is).0
    where
      by : (pending : List Change) → None ≡ newest_in pending → pending ≡ []
      by [] is = refl
      by (last ∷ rest) is = absurd cc

  pub last_at : (id : ℕ) (found : PendingChange) → IsIdOf m t s stands k known id → Some found ≡ first_of (stack_at t.stacks k).changes → Last id found
  last_at id found own is =
      by (pending_of s.history (seat_at s.seats k).txn) refl (stands.kept.chained (seat_at s.seats k).txn) (newest_is m t s stands k known some (Some found) is).0
    where
      some : (seat_at s.seats k).txn ≡ 0 → ⊥
      some none = omega (arith, own.is, own.given.0, none)

      by : (pending : List Change) → pending_of s.history (seat_at s.seats k).txn ≡ pending → AreKept m.pages pending → Some found ≡ newest_in pending → Last id found
      by [] pending chain found_is = absurd cc
      by (last ∷ rest) pending chain found_is =
          let mine : last.txn ≡ (seat_at s.seats k).txn = last_is_of s.history (seat_at s.seats k).txn last rest pending in record {
            last = last;
            rest = rest;
            pending = pending;
            own = subst (IsIdOf m t s stands k known) (sym (mine ∙ own.is)) own;
            txn = mine ∙ own.is;
            found_is = cc;
            chain = chain;
          }

  -- the entry of its page is logged before
  pub prepare_keeps : (id : ℕ) (found : PendingChange) → Last id found → (aim : Aim) (lsn : ℕ) → newest_lsn s.history < lsn → is_over (seat_at s.seats k).stage ≡ false
      → Stands m (moved_to t t.table t.needs t.stacks k (Compensates aim found.rid.page))
      (prepared m.format s k (aim_with (slice_index_or t.ops k Unbound) aim) lsn (pending_of s.history (seat_at s.seats k).txn))
  prepare_keeps id found l aim lsn above going =
      let page : found.rid.page ≡ l.last.rid.page = ap (λ (p : PendingChange). p.rid.page) l.found_is in
      rw (page, l.pending) (stays_keep m t s stands k known (Compensates aim l.last.rid.page) (λ some. sym going) l.chain.0.inside.0
      (enters (entry_for m.format lsn s.history l.last) ∷ s.history) (λ id. refl)
      (enter_kept m.pages s.next s.history (entry_for m.format lsn s.history l.last) above stands.kept))

  pub undo_has_room : (id : ℕ) (found : PendingChange) (l : Last id found) (back : Slot) → undo_fits s.history (pending_of s.history (seat_at s.seats k).txn) ≡ true
      → IfSome (newest_in (pending_of s.history (seat_at s.seats k).txn)) (λ last. row_length back ≡ last.before)
      → (used (set_slot (page_of s.history l.last.rid.page) l.last.rid.slot back) + others_need s.history l.last.txn l.last.rid.page + l.last.need ≤ CAPACITY)
  undo_has_room id found l back fits length_is =
      let slots : List Slot = page_of s.history l.last.rid.page in
      let room = leb-true _ _ (rw l.pending at fits) in
      let same : row_length back ≡ row_length l.last.before = rw l.pending at length_is in
      omega (arith, room, same, used-set_slot slots l.last.rid.slot back, used-set_slot slots l.last.rid.slot l.last.before)

  module _ (id : ℕ) (found : PendingChange) (l : Last id found) (back : Slot)
      (room : used (set_slot (page_of s.history l.last.rid.page) l.last.rid.slot back) + others_need s.history l.last.txn l.last.rid.page + l.last.need ≤ CAPACITY) where
    abbrev last : Change
    last = l.last

    abbrev its : Option Txn
    its = txn_of t.table (k + 1)

    abbrev at : core.Stage
    at = stage_at t k

    pending : pending_of s.history last.txn ≡ last ∷ l.rest
    pending = ap (pending_of s.history) (sym l.own.is) ∙ l.pending

    abbrev undo : ℕ → Undo
    undo lsn = undo_for lsn (record last { before = back })

    need_after : (lsn : ℕ) → last.need ≡ need_of (undoes (undo lsn) ∷ s.history) last.txn last.rid.page
    need_after lsn = l.chain.0.need ∙ sym (ap (λ (p : List Change). need_for (on_page last.rid.page p)) (pending_of-undo s.history (undo lsn) last l.rest pending))

    fits : (lsn : ℕ) → FitsOn (undoes (undo lsn) ∷ s.history) last.rid.page
    fits lsn = undo_fits_on s.history (undo lsn) last l.rest pending refl (omega (arith, room, need_after lsn, used_is lsn))
      where
        used_is : (lsn : ℕ) → used (page_of (undoes (undo lsn) ∷ s.history) last.rid.page) ≡ used (set_slot (page_of s.history last.rid.page) last.rid.slot back)
        used_is lsn = grind (arith, nat_tests)

    undo_room : HasRoom t.needs last.rid.page last.txn last.need
    undo_room = has_room t.needs (undoes (undo 0) ∷ s.history) last.rid.page last.txn last.need (need_after 0)
        (λ other differs. stands.needed last.rid.page other ∙ sym (need_of-undo_other s.history (undo 0) other last.rid.page (λ same. differs (sym same)))) (fits 0)

    undo_entry : HasEntry t.needs last.rid.page last.txn
    undo_entry = stands.there last.rid.page last.txn (subst (λ (p : List Change). IsOn p last.rid.page) (sym pending) (inl refl))

    -- what the transaction owes
    owes : (txn : Txn) → txn.id.0 ≡ last.txn → is_over at ≡ false → IsAccounted s.history at txn → TXN_BYTES + bytes_for (last ∷ l.rest) ≡ txn.owed
    owes txn has going is = let its : pending_of s.history txn.id.0 ≡ last ∷ l.rest = ap (pending_of s.history) has ∙ pending in sym (rw (going, its) at is.owed)

    pub undo_owes : is_over (seat_at s.seats k).stage ≡ false → ForSome its (λ txn. OWED + OWED + found.before ≤ txn.owed)
    undo_owes going txn txn_is =
        let old = stands.sits k (omega (arith, known, stands.sized)) in
        let owed = owes txn (rw txn_is at l.own.has) (ap is_over (sym (stage_is m t s stands k known)) ∙ going) (rw txn_is at old.accounted) in omega (arith, owed, ap (λ (p : PendingChange). p.before) l.found_is)

    -- of the change as it is kept
    pub has_entry : HasEntry t.needs found.rid.page id
    has_entry = subst (λ (p : PendingChange). HasEntry t.needs p.rid.page id) (sym l.found_is) (subst (HasEntry t.needs last.rid.page) l.txn undo_entry)

    pub may_restore : HasRoom t.needs found.rid.page id found.need
    may_restore = subst (λ (p : PendingChange). HasRoom t.needs p.rid.page id p.need) (sym l.found_is) (subst (λ (n : ℕ). HasRoom t.needs last.rid.page n last.need) l.txn undo_room)

    pub undo_keeps : (next : Table) (left : Reserved) (stacks : List StackValue) (lsn under : Lsn) (aim : Aim) → newest_lsn s.history < lsn.0
        → under.0 ≡ under_in (pending_of s.history (seat_at s.seats k).txn) → is_over (seat_at s.seats k).stage ≡ false → Sets t.needs left found.rid.page id found.need
        → ChangesOnly t.table next (k + 1) (option_map (after_pop under found.before) its)
        → SetsStack t.stacks stacks k (rest_of (stack_at t.stacks k).changes)
        → Stands m (moved_to t next left stacks k (Rolls aim))
        (undone s k (aim_with (slice_index_or t.ops k Unbound) aim) lsn.0 back (pending_of s.history (seat_at s.seats k).txn))
    undo_keeps next left stacks lsn under aim above under_at going sets_found only_found stacked =
        let old = stands.sits k (omega (arith, known, stands.sized)) in
        let txn = option_map (after_pop under (row_length last.before)) its in
        let going_at : is_over at ≡ false = ap is_over (sym (stage_is m t s stands k known)) ∙ going in
        let only : ChangesOnly t.table next (k + 1) txn = subst (λ (p : PendingChange). ChangesOnly t.table next (k + 1) (option_map (after_pop under p.before) its)) l.found_is only_found in
        let stack : (stack_at t.stacks k).changes ≡ map noted_of (last ∷ l.rest) = old.stacked ∙ ap (map noted_of) (pends its l.own.has) in
        rw (l.pending, seat_now m t s stands k known (with_op t k (Rolls aim)) ∙ seat_is its)
        (moved m t s stands k known next left stacks txn (Rolls aim) after s.next (record {
          only = only_now m t s stands k known next txn only;
          more = omega (arith, stands.next);
          own = own_id m t s stands k known txn (same its);
          others = λ j other apart has. pending-undo_other (undo lsn.0) s.history other (elsewhere m t s stands k known last.txn l.own j other apart has);
          stacks_are = record { here = stacked.here ∙ ap rest_of stack ∙ ap (map noted_of) (sym (left_is its l.own.has)); others = stacked.others };
          accounted = accounted its l.own.has going_at old.accounted;
          of_file = tt;
          needed = needed;
          there = there;
          kept = undo_kept s.history (undo lsn.0) last l.rest pending refl m.pages s.next l.own.given.1 above (fits lsn.0) stands.kept;
        }))
      where
        after : History
        after = undoes (undo lsn.0) ∷ s.history

        under_is : under.0 ≡ last.under
        under_is = under_at ∙ ap under_in l.pending

        sets : Sets t.needs left last.rid.page last.txn last.need
        sets = subst (λ (n : ℕ). Sets t.needs left last.rid.page n last.need) (sym l.txn) (subst (λ (p : PendingChange). Sets t.needs left p.rid.page id p.need) l.found_is sets_found)

        seat_is : (txn : Option Txn) → seat_from txn (with_op t k (Rolls aim)) ≡ seat_from (option_map (after_pop under (row_length last.before)) txn) (with_op t k (Rolls aim))
        seat_is txn = grind (arith, nat_tests)

        same : (txn : Option Txn) (id : ℕ) → HasId (option_map (after_pop under (row_length last.before)) txn) id → HasId txn id
        same txn id has = grind (arith, nat_tests)

        pends : (txn : Option Txn) → HasId txn last.txn → pending_by s.history txn ≡ last ∷ l.rest
        pends None has = absurd has
        pends (Some txn) has = ap (pending_of s.history) has ∙ pending

        left_is : (txn : Option Txn) → HasId txn last.txn → pending_by after (option_map (after_pop under (row_length last.before)) txn) ≡ l.rest
        left_is None has = absurd has
        left_is (Some txn) has = ap (pending_of after) has ∙ pending_of-undo s.history (undo lsn.0) last l.rest pending

        accounted : (txn : Option Txn) → HasId txn last.txn → is_over at ≡ false → Accounts s.history at txn
            → Accounts after (with_op t k (Rolls aim)) (option_map (after_pop under (row_length last.before)) txn)
        accounted None has going is = tt
        accounted (Some txn) has going is =
            let rest : pending_of after txn.id.0 ≡ l.rest = left_is (Some txn) has in
            let owed = owes txn has going is in
            record { some = is.some; undo = rw rest (under_is ∙ l.chain.0.under); owed = rw rest (omega (arith, owed)); over = is.over ∙ going }

        needed : (page id : ℕ) → need_in left page id ≡ need_of after id page
        needed page id = grind (arith, nat_tests, sets, stands.needed, need_after lsn.0, pending, pending_on-undo, need_of-undo_other)

        there : (page id : ℕ) → IsOn (pending_of after id) page → HasEntry left page id
        there page id on = grind (arith, nat_tests, sets, stands.there, pending, pending_of-undo, pending-undo_other)
