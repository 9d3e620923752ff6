-- A sound log is restarted to its end: what undoes a change, or ends a transaction, always has its place.
use Rattle.std.proofs.Common.{◌≡◌, inl, inr, ℕ, ◌+◌, ◌<◌, ◌≤◌, List, ◌∷◌, length, refl, ap, subst, ◌∙◌, arith}
use Rattle.std.proofs.lemmas.Bool.{cases_eq}
use Rattle.rm_types.specs.declared.formats.Format.{Format}
use Rattle.rm_types.specs.declared.formats.Format.TheVariants.{One}
use Rattle.rm_types.specs.declared.formats.TheConstants.{MAX_CATEGORY}
use Rattle.rm_types.specs.declared.numbers.TheConstants.{MAX_LOG}
use Rattle.rm_types.specs.declared.slots.Slot.{Slot}
use Rattle.rm_types.specs.declared.slots.Slot.TheVariants.{Vacant, Row}
use Rattle.rm_types.specs.declared.slots.TheConstants.{CAPACITY}
use Rattle.rm_model.specs.Pages.{used, set_slot}
use Rattle.rm_record.specs.Records.{spelling}
use Rattle.rm_history.specs.declared.TheConstants.{BATCH_HEADER}
use Rattle.rm_history.specs.Acts.{Change, Undo, History, undoes, ends, newest_lsn}
use Rattle.rm_history.specs.Batched.{AreBelow}
use Rattle.rm_history.specs.Contents.{entry_of, page_of}
use Rattle.rm_history.specs.Laws.{AreChained}
use Rattle.rm_history.specs.Legal.{IsLegal}
use Rattle.rm_history.specs.Pending.{all_pending, pending_of, of_txn, AreFalling}
use Rattle.rm_history.specs.Rules.{IsInOrder}
use Rattle.rm_history.specs.Sizes.{IsNext, end_of}
use Rattle.rm_history.specs.UndoBytes.{undo_bytes, bytes_of, compensate_record, end_record, inventory_record}
use Rattle.rm_history.specs.Undoing.{category_after, entry_for, undo_for, Undone, Ended}
use Rattle.rm_history.proofs.AllPending.{pending_of-newest}
use Rattle.rm_history.proofs.Chains.{last_is_inside, last_is_unfinished}
use Rattle.rm_history.proofs.FallingLsns.{pending_falls}
use Rattle.rm_history.proofs.PendingLaws.{pending_is_chained}
use Rattle.rm_history.proofs.PendingSteps.{if_equal}
use Rattle.rm_history.proofs.Prefixes.{legal_is_in_order}
use Rattle.rm_history.proofs.Sizes.{next_within}
use Rattle.rm_history.proofs.UndoBytes.{undo_bytes-undone, undo_bytes-entered, undo_bytes-ended}
use Rattle.rm_history.proofs.UndoTheorem.{undoes_are_in_order}
use Rattle.rm_apply.specs.Redo.{CannotHave}
use Rattle.rm_recovery.specs.Restarting.{IsRestarting, CannotUndoAt, CannotEndAt, IsOutside, HasNoPlace, IsUndoDamageAt}
use Rattle.rm_recovery.proofs.Steps.{below_in, last_is_in, legal_so_far}

-- a compensation has more bytes than a record of the inventory
compensation_long : (u : Undo) → 10 ≤ length (spelling (compensate_record u))
compensation_long u = elim u.back as (λ back. 10 ≤ length (spelling (compensate_record (record u { back = back })))) [ Vacant ↦ omega arith | Row row ↦ omega arith ]

module _ {format : Format} {pages : ℕ} {before now : History} (restarting : IsRestarting format pages before now) (legal : IsLegal format before)
    (below : AreBelow pages before) (room : end_of before + (BATCH_HEADER + undo_bytes format before) ≤ MAX_LOG) where
  ordered : IsInOrder now
  ordered = legal_is_in_order format now (legal_so_far restarting legal)

  -- what undo still needs has its room
  roomy : (next bytes : ℕ) → IsNext now next → bytes + BATCH_HEADER ≤ undo_bytes format now → MAX_LOG < next + bytes → ⊥
  roomy next bytes is few full = omega (arith, restarting.room legal, next_within now next is, room, few, full)

  module _ (last : Change) (rest : List Change) (pending : all_pending now ≡ last ∷ rest) where
    mine : pending_of now last.txn ≡ last ∷ of_txn last.txn rest
    mine = pending_of-newest now last rest pending

    inside : last.rid.page < pages
    inside = below_in pages now last (restarting.below below) (last_is_in now last rest pending)

    not_outside : IsOutside pages last → ⊥
    not_outside (inl under) =
        let chained : AreChained (last ∷ of_txn last.txn rest) = subst AreChained mine (pending_is_chained now ordered last.txn) in
        let falls : AreFalling (last ∷ of_txn last.txn rest) = subst AreFalling mine (pending_falls now ordered last.txn).0 in
        omega (arith, under, chained.0, falls.0)
    not_outside (inr past) = omega (arith, past, inside)

    taken_bytes : entry_of now last.rid.page ≡ category_after format now last → bytes_of (compensate_record (undo_for 0 last)) ≤ undo_bytes format now
    taken_bytes right =
        let lsn : ℕ = newest_lsn now + 1 in
        let undone : Undone format now last (undoes (undo_for lsn last) ∷ now) =
        record { settled = now; settles = inl (right, refl); lsn = lsn; above = omega arith; new_is = refl } in
        let down = undo_bytes-undone format now (undoes (undo_for lsn last) ∷ now) last rest ordered pending undone in
        omega (arith, down)

    entered_bytes : bytes_of (inventory_record (entry_for format 0 now last)) ≤ undo_bytes format now
    entered_bytes = elim (cases_eq (entry_of now last.rid.page) (category_after format now last)) [
      | inl right ↦ omega (arith, taken_bytes right, compensation_long (undo_for 0 last))
      | inr wrong ↦
          let down = undo_bytes-entered format now last rest (newest_lsn now + 1) ordered pending wrong (omega arith) in
          omega (arith, down)
    ]

    can_enter : HasNoPlace pages now (inventory_record (entry_for format 0 now last)) → ⊥
    can_enter (inl (inl cannot)) = cannot
    can_enter (inl (inr (inl past))) = omega (arith, past, inside)
    can_enter (inl (inr (inr greater))) = elim format as (λ f. MAX_CATEGORY < category_after f now last → ⊥) [ One ↦ λ more. omega (arith, more) ] greater
    can_enter (inr (next, is, full)) = roomy next _ is entered_bytes full

    can_hold : (held : Slot) → last.before ≡ held → CannotHave (page_of now last.rid.page) last.rid.slot held → ⊥
    can_hold Vacant is past = omega (arith, past, last_is_inside now last.txn last (of_txn last.txn rest) mine)
    can_hold (Row row) is over =
        let lsn : ℕ = newest_lsn now + 1 in
        let next : IsInOrder (undoes (undo_for lsn last) ∷ now) =
        undoes_are_in_order now last.txn lsn last (of_txn last.txn rest) ordered (last_is_unfinished now ordered last.txn last (of_txn last.txn rest) mine) mine (omega arith) in
        let fits : used (page_of (undoes (undo_for lsn last) ∷ now) last.rid.page) + 0 ≤ CAPACITY = next.1.fits last.rid.page 0 in
        let page : page_of (undoes (undo_for lsn last) ∷ now) last.rid.page ≡ set_slot (page_of now last.rid.page) last.rid.slot last.before =
        if_equal last.rid.page last.rid.page (set_slot (page_of now last.rid.page) last.rid.slot last.before) (page_of now last.rid.page) refl in
        let same : page_of (undoes (undo_for lsn last) ∷ now) last.rid.page ≡ set_slot (page_of now last.rid.page) last.rid.slot (Row row) =
        page ∙ ap (λ (slot : Slot). set_slot (page_of now last.rid.page) last.rid.slot slot) is in
        omega (arith, over, fits, ap used same)

    can_take : entry_of now last.rid.page ≡ category_after format now last → HasNoPlace pages now (compensate_record (undo_for 0 last)) → ⊥
    can_take right (inl (inl (inl past))) = omega (arith, past, inside)
    can_take right (inl (inl (inr cannot))) = can_hold last.before refl cannot
    can_take right (inl (inr cannot)) = cannot
    can_take right (inr (next, is, full)) = roomy next _ is (taken_bytes right) full

  can_undo : (at : ℕ) → CannotUndoAt format pages now at → ⊥
  can_undo at cannot = elim cannot.why [
    | inl outside ↦ not_outside cannot.last cannot.rest cannot.pending outside
    | inr (inl entry) ↦ can_enter cannot.last cannot.rest cannot.pending entry
    | inr (inr taken) ↦ can_take cannot.last cannot.rest cannot.pending taken.0 taken.1
  ]

  can_end : (at : ℕ) → CannotEndAt now at → ⊥
  can_end at cannot =
      let lsn : ℕ = newest_lsn now + 1 in
      let ended : Ended now cannot.txn (ends (record { lsn = lsn; txn = cannot.txn }) ∷ now) = record { lsn = lsn; above = omega arith; new_is = refl } in
      let down = undo_bytes-ended format now (ends (record { lsn = lsn; txn = cannot.txn }) ∷ now) cannot.txn cannot.rest cannot.none cannot.losers ended in
      roomy at (length (spelling (end_record cannot.txn))) cannot.next (omega (arith, down)) cannot.full

-- so no restart of it stops
pub never_stops : {format : Format} {pages at : ℕ} {before : History} → IsLegal format before → AreBelow pages before
    → end_of before + (BATCH_HEADER + undo_bytes format before) ≤ MAX_LOG → IsUndoDamageAt format pages before at → ⊥
never_stops {at = at} legal below room damage = elim damage.stops [
  | inl undo ↦ can_undo damage.restarting legal below room at undo
  | inr end ↦ can_end damage.restarting legal below room at end
]
