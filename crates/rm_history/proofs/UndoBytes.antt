-- The bytes that restart's undo will add to a log go down by those of each record that it adds.
use Rattle.std.proofs.Common.{◌≡◌, inl, inr, ℕ, ◌+◌, ◌<◌, ◌==◌, if◌then◌else◌, cond, eqb, List, [], ◌∷◌, refl, sym, ap, ◌∙◌, arith}
use Rattle.std.proofs.lemmas.Bool.{cases_eq, eq-eqb, ne_eqb}
use Rattle.rm_types.specs.declared.formats.Format.{Format}
use Rattle.rm_types.specs.declared.slots.Slot.{Slot}
use Rattle.rm_model.specs.Pages.{set_slot}
use Rattle.rm_history.specs.Acts.{Change, History, undoes, enters, ends, newest_lsn}
use Rattle.rm_model.specs.Categories.{category_of}
use Rattle.rm_history.specs.Contents.{page_of, entry_of}
use Rattle.rm_history.specs.Pending.{pending_of, of_txn, without, all_pending}
use Rattle.rm_history.specs.Rules.{IsInOrder}
use Rattle.rm_history.specs.Losers.{with_number, without_number, losers_of, IsAmong}
use Rattle.rm_history.specs.Undoing.{category_after, entry_for, undo_for, Settles, Undone, Ended}
use Rattle.rm_history.specs.UndoBytes.{inventory_record, compensate_record, end_record, bytes_of, entry_bytes, some_lsn}
use Rattle.rm_history.specs.UndoBytes.{with_entry, with_undo, undoing_bytes, ending_bytes, undo_bytes}
use Rattle.rm_history.specs.UndoLaws.{UndoBytesGoDown}
use Rattle.rm_history.proofs.Chains.{last_is_unfinished}
use Rattle.rm_history.proofs.AllPending.{pending_of-newest}
use Rattle.rm_history.proofs.UndoSteps.{undone_either, all_pending_undone}
use Rattle.rm_history.proofs.Losers.{losers_rise, losers_are_unfinished, with_number_among, with_number-kept}
use Rattle.rm_history.proofs.Finished.{last_has_record}

-- ---- what an undo leaves in pages and in the inventory

-- two histories with the same pages and the same entries
record AreAlike (history other : History) : Type 0 where
  pages : (page : ℕ) → page_of history page ≡ page_of other page
  entries : (page : ℕ) → entry_of history page ≡ entry_of other page

-- the slots of a page with a change undone
abbrev page_undone : History → Change → ℕ → List Slot
page_undone history last page = if last.rid.page == page then set_slot (page_of history page) last.rid.slot last.before else page_of history page

-- and its entry
abbrev entry_undone : Format → History → Change → ℕ → ℕ
entry_undone start history last page = if last.rid.page == page then category_after start history last else entry_of history page

-- a history that has them
record IsDone (start : Format) (before : History) (last : Change) (new : History) : Type 0 where
  pages : (page : ℕ) → page_of new page ≡ page_undone before last page
  entries : (page : ℕ) → entry_of new page ≡ entry_undone start before last page

-- an entry that is right is what it would be set to
entry_right : (start : Format) (before : History) (last : Change) (page : ℕ)
    → entry_of before last.rid.page ≡ category_after start before last → entry_of before page ≡ entry_undone start before last page
entry_right start before last page right = elim (cases_eq last.rid.page page) [
  | inl here ↦ rw (eq-eqb last.rid.page page here) (ap (entry_of before) (sym here) ∙ right)
  | inr other ↦ rw (ne_eqb last.rid.page page other)
]

-- the undo of a change leaves them
done : (start : Format) (before new : History) (last : Change) → Undone start before last new → IsDone start before last new
done start before new last undone =
    undone_either start before new last (IsDone start before last) undone
    (λ lsn above right. record { pages = λ page. refl; entries = λ page. entry_right start before last page right })
    (λ next lsn above later wrong. record { pages = λ page. refl; entries = λ page. refl })

-- histories that are alike do not differ in the category after an undo
category_alike : (start : Format) (history other : History) (last : Change) → AreAlike history other
    → category_after start history last ≡ category_after start other last
category_alike start history other last alike =
    ap (λ (slots : List Slot). category_of start (set_slot slots last.rid.slot last.before)) (alike.pages last.rid.page)

-- nor in the pages and entries after it
done_alike : (start : Format) (history other new newer : History) (last : Change) → AreAlike history other → IsDone start history last new
    → IsDone start other last newer → AreAlike new newer
done_alike start history other new newer last alike one two = record {
  pages = λ page. one.pages page
      ∙ ap (λ (slots : List Slot). cond (eqb last.rid.page page) (set_slot slots last.rid.slot last.before) slots) (alike.pages page)
      ∙ sym (two.pages page);
  entries = λ page. one.entries page
      ∙ ap (λ (category : ℕ). cond (eqb last.rid.page page) category (entry_of history page)) (category_alike start history other last alike)
      ∙ ap (λ (entry : ℕ). cond (eqb last.rid.page page) (category_after start other last) entry) (alike.entries page)
      ∙ sym (two.entries page);
}

-- ---- the undo of a history with some LSNs is one of its undos

-- before it the entry of its page is set, where that is needed,
settles_some : (start : Format) (history : History) (last : Change) → Settles start history last (with_entry start history last)
settles_some start history last = elim (cases_eq (entry_of history last.rid.page) (category_after start history last)) [
  | inl right ↦ inl (right, rw (eq-eqb (entry_of history last.rid.page) (category_after start history last) right))
  | inr wrong ↦ inr (wrong, (some_lsn history, omega arith, rw (ne_eqb (entry_of history last.rid.page) (category_after start history last) wrong)))
]

-- and then the change is undone
some_undone : (start : Format) (history : History) (last : Change) → Undone start history last (with_undo start history last)
some_undone start history last = record {
  settled = with_entry start history last;
  settles = settles_some start history last;
  lsn = some_lsn (with_entry start history last);
  above = omega arith;
  new_is = refl;
}

-- ---- the bytes of the undo are those of its records, whatever their LSNs

-- they hang on the pages and entries alone
entry_bytes_alike : (start : Format) (history other : History) (last : Change) → AreAlike history other
    → entry_bytes start history last ≡ entry_bytes start other last
entry_bytes_alike start history other last alike =
    ap (λ (entry : ℕ). cond (eqb entry (category_after start history last)) 0 (bytes_of (inventory_record (entry_for start 0 history last))))
    (alike.entries last.rid.page)
    ∙ ap (λ (category : ℕ). cond (eqb (entry_of other last.rid.page) category) 0
    (bytes_of (inventory_record (record { lsn = 0; txn = last.txn; page = last.rid.page; category = category }))))
    (category_alike start history other last alike)

-- and so do those of undoing these changes
undoing_bytes_alike : (start : Format) (history other : History) (all : List Change) → AreAlike history other
    → undoing_bytes start history all ≡ undoing_bytes start other all
undoing_bytes_alike start history other [] alike = refl
undoing_bytes_alike start history other (last ∷ rest) alike =
    let more : undoing_bytes start (with_undo start history last) rest ≡ undoing_bytes start (with_undo start other last) rest =
    undoing_bytes_alike start (with_undo start history last) (with_undo start other last) rest
    (done_alike start history other (with_undo start history last) (with_undo start other last) last alike
    (done start history (with_undo start history last) last (some_undone start history last))
    (done start other (with_undo start other last) last (some_undone start other last))) in
    ap (λ (bytes : ℕ). bytes + bytes_of (compensate_record (undo_for 0 last)) + undoing_bytes start (with_undo start history last) rest)
    (entry_bytes_alike start history other last alike)
    ∙ ap (λ (bytes : ℕ). entry_bytes start other last + bytes_of (compensate_record (undo_for 0 last)) + bytes) more

-- ---- what is left to undo

-- so the undo of a loser's change takes the bytes of its records from those of the undo that is left
undo_bytes-loser : (start : Format) (before new : History) (last : Change) (rest : List Change) → IsAmong (losers_of before) last.txn
    → all_pending before ≡ last ∷ rest → Undone start before last new
    → undo_bytes start before ≡ entry_bytes start before last + bytes_of (compensate_record (undo_for 0 last)) + undo_bytes start new
undo_bytes-loser start before new last rest among is undone =
    let pending : all_pending new ≡ rest = all_pending_undone start before new last rest is undone in
    let kept : with_number last.txn (losers_of before) ≡ losers_of before = with_number-kept last.txn (losers_of before) (losers_rise before) among in
    let losers : losers_of new ≡ losers_of before =
    undone_either start before new last (λ h. losers_of h ≡ losers_of before) undone
    (λ lsn above right. kept) (λ next lsn above later wrong. ap (with_number last.txn) kept ∙ kept) in
    let alike : AreAlike (with_undo start before last) new =
    done_alike start before before (with_undo start before last) new last (record { pages = λ page. refl; entries = λ page. refl })
    (done start before (with_undo start before last) last (some_undone start before last)) (done start before new last undone) in
    let first : undoing_bytes start before (all_pending before) ≡ undoing_bytes start before (last ∷ rest) = ap (undoing_bytes start before) is in
    let later : undoing_bytes start (with_undo start before last) rest ≡ undoing_bytes start new (all_pending new) =
    undoing_bytes_alike start (with_undo start before last) new rest alike ∙ ap (undoing_bytes start new) (sym pending) in
    let ending : ending_bytes (losers_of new) ≡ ending_bytes (losers_of before) = ap ending_bytes losers in
    omega (arith, first, later, ending)

-- ---- the laws

-- the newest of all that is pending is of a loser
newest_is_of_loser : (history : History) (last : Change) (rest : List Change) → IsInOrder history → all_pending history ≡ last ∷ rest
    → IsAmong (losers_of history) last.txn
newest_is_of_loser history last rest ordered is =
    let mine : pending_of history last.txn ≡ last ∷ of_txn last.txn rest = pending_of-newest history last rest is in
    (losers_are_unfinished.exact history ordered last.txn).1
    (last_has_record history last.txn last (of_txn last.txn rest) mine, last_is_unfinished history ordered last.txn last (of_txn last.txn rest) mine)

-- each undo takes its bytes, and those of the entry before it, from what is left
pub undo_bytes-undone : (start : Format) (before new : History) (last : Change) (rest : List Change) → IsInOrder before
    → all_pending before ≡ last ∷ rest → Undone start before last new
    → undo_bytes start before ≡ entry_bytes start before last + bytes_of (compensate_record (undo_for 0 last)) + undo_bytes start new
undo_bytes-undone start before new last rest ordered is undone =
    undo_bytes-loser start before new last rest (newest_is_of_loser before last rest ordered is) is undone

-- each entry before an undo takes its own
pub undo_bytes-entered : (start : Format) (before : History) (last : Change) (rest : List Change) (lsn : ℕ) → IsInOrder before
    → all_pending before ≡ last ∷ rest
    → (entry_of before last.rid.page ≡ category_after start before last → ⊥) → newest_lsn before < lsn
    → undo_bytes start before ≡ bytes_of (inventory_record (entry_for start 0 before last)) + undo_bytes start
    (enters (entry_for start lsn before last) ∷ before)
undo_bytes-entered start before last rest lsn ordered is wrong above =
    let mid : History = enters (entry_for start lsn before last) ∷ before in
    let new : History = undoes (undo_for (some_lsn mid) last) ∷ mid in
    let right : entry_of mid last.rid.page ≡ category_after start mid last = rw (eq-eqb last.rid.page last.rid.page refl) in
    let one : Undone start before last new =
    record { settled = mid; settles = inr (wrong, (lsn, above, refl)); lsn = some_lsn mid; above = omega arith; new_is = refl } in
    let two : Undone start mid last new = record { settled = mid; settles = inl (right, refl); lsn = some_lsn mid; above = omega arith; new_is = refl } in
    let wanted : entry_bytes start before last ≡ bytes_of (inventory_record (entry_for start 0 before last)) =
    rw (ne_eqb (entry_of before last.rid.page) (category_after start before last) wrong) in
    let none : entry_bytes start mid last ≡ 0 = rw (eq-eqb (entry_of mid last.rid.page) (category_after start mid last) right) in
    let all : undo_bytes start before ≡ entry_bytes start before last + bytes_of (compensate_record (undo_for 0 last)) + undo_bytes start new =
    undo_bytes-undone start before new last rest ordered is one in
    let less : undo_bytes start mid ≡ entry_bytes start mid last + bytes_of (compensate_record (undo_for 0 last)) + undo_bytes start new =
    undo_bytes-loser start mid new last rest ((with_number_among last.txn last.txn (losers_of before)).1 (inl refl)) is two in
    omega (arith, wanted, none, all, less)

-- and after all undo each end takes its own
pub undo_bytes-ended : (start : Format) (before new : History) (txn : ℕ) (rest : List ℕ) → all_pending before ≡ []
    → losers_of before ≡ txn ∷ rest → Ended before txn new
    → undo_bytes start before ≡ bytes_of (end_record txn) + undo_bytes start new
undo_bytes-ended start before new txn rest none are ended =
    let after : History = ends (record { lsn = ended.lsn; txn = txn }) ∷ before in
    let losers : losers_of after ≡ rest = ap (without_number txn) are ∙ rw (eq-eqb txn txn refl) in
    let nothing : all_pending after ≡ [] = ap (λ (all : List Change). without all txn) none in
    let new_bytes : undo_bytes start new ≡ undo_bytes start after = ap (undo_bytes start) ended.new_is in
    let first : undoing_bytes start before (all_pending before) ≡ 0 = ap (undoing_bytes start before) none in
    let later : undoing_bytes start after (all_pending after) ≡ 0 = ap (undoing_bytes start after) nothing in
    let all : ending_bytes (losers_of before) ≡ bytes_of (end_record txn) + ending_bytes rest = ap ending_bytes are in
    let less : ending_bytes (losers_of after) ≡ ending_bytes rest = ap ending_bytes losers in
    omega (arith, new_bytes, first, later, all, less)

pub undo_bytes_go_down : UndoBytesGoDown
undo_bytes_go_down = record { entered = undo_bytes-entered; undone = undo_bytes-undone; ended = undo_bytes-ended }
