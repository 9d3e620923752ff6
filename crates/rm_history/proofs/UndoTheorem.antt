-- A transaction's last pending change can always be undone: its page has the room.
use Rattle.std.proofs.Common.{◌≡◌, inl, inr, ℕ, ◌+◌, ◌<◌, ◌≤◌, List, [], ◌∷◌, length, refl, sym, ap, subst, ◌∙◌, arith}
use Rattle.std.proofs.lemmas.Bool.{cases_eq, eq-eqb, ne_eqb}
use Rattle.rm_types.specs.declared.formats.Format.{Format}
use Rattle.rm_types.specs.declared.formats.Format.TheVariants.{One}
use Rattle.rm_model.specs.Pages.{used, row_length, set_slot, slot_at}
use Rattle.rm_history.specs.Acts.{Change, Undo, Entry, History, undoes, enters, newest_lsn}
use Rattle.rm_history.specs.Contents.{page_of, entry_of}
use Rattle.rm_history.specs.Pending.{pending_of}
use Rattle.rm_history.specs.Transactions.{IsFinished}
use Rattle.rm_history.specs.Needs.{need_of, Fits}
use Rattle.rm_history.specs.Rules.{MayUndo, MayEnter, Follows, IsInOrder}
use Rattle.rm_history.specs.Legal.{EntriesFollow, IsLegal}
use Rattle.rm_history.specs.Undoing.{category_after, entry_for, undo_for, Undone}
use Rattle.rm_history.specs.UndoLaws.{IsUndone, UndoesAreInOrder, NoUndoLacksRoom}
use Rattle.rm_model.proofs.Sums.{sum_below-zero}
use Rattle.rm_history.proofs.NeedSums.{room_kept, used-inside, pending_of-undo, pending_on-undo, need_of-undo}
use Rattle.rm_history.proofs.NeedSums.{need_of-undo_other, fits_as_before}
use Rattle.rm_history.proofs.UndoSteps.{undone_either}
use Rattle.rm_history.proofs.Following.{entries_follow_undo, entries_follow_entry}
use Rattle.rm_history.proofs.Prefixes.{legal_is_in_order}
use Rattle.rm_history.proofs.PendingSteps.{pending-undo_other}
use Rattle.rm_history.proofs.Chains.{last_is_of, last_is_inside, last_is_held}

-- ---- what is known of a legal history

-- each page of a history in order fits
pub fits_in_order : (history : History) → IsInOrder history → Fits history
fits_in_order [] ordered = λ page n. omega (arith, sum_below-zero n)
fits_in_order (act ∷ before) ordered = ordered.1.fits

-- the inventory of a legal history follows
pub entries_follow : (start : Format) (history : History) → IsLegal start history → EntriesFollow start history
entries_follow One [] legal = λ page. inl refl
entries_follow start (act ∷ before) legal = legal.2.follow

-- ---- the page's entry

-- the record that enters what undoing the change needs may come, and keeps the inventory
entry_is_legal : (start : Format) (before : History) (last : Change) (rest : List Change) (lsn : ℕ) → IsLegal start before
    → (IsFinished before last.txn → ⊥) → pending_of before last.txn ≡ last ∷ rest → newest_lsn before < lsn
    → (entry_of before last.rid.page ≡ category_after start before last → ⊥) → IsLegal start (enters (entry_for start lsn before last) ∷ before)
entry_is_legal start before last rest lsn legal unfinished is above wrong =
    let e : Entry = entry_for start lsn before last in
    let may : MayEnter before e = record { unfinished = unfinished; last = last; is_last = (rest, is); page_is = refl } in (
      legal,
      record { above = above; may_come = may; fits = fits_in_order before (legal_is_in_order start before legal) },
      record {
        entered = record { differs = λ same. wrong (sym same); right = inr (last, (rest, is), refl) };
        follow = entries_follow_entry start before e may (entries_follow start before legal);
      },
    )

-- ---- the compensation

-- what is to be known of a transaction's newest pending change: its slot is inside of the directory, and holds what the change left
record Stands (history : History) (last : Change) : Type 0 where
  inside : last.rid.slot < length (page_of history last.rid.page)
  holds : slot_at (page_of history last.rid.page) last.rid.slot ≡ last.after

-- on the change's page the undo gives up no more room than is kept for it
room_for_undo : (before : History) (last : Change) (rest : List Change) (lsn page : ℕ) → pending_of before last.txn ≡ last ∷ rest
    → Stands before last → last.rid.page ≡ page
    → used (set_slot (page_of before page) last.rid.slot last.before) + need_of (undoes (undo_for lsn last) ∷ before) last.txn page
    ≤ used (page_of before page) + need_of before last.txn page
room_for_undo before last rest lsn page is stands here =
    let there : last.rid.slot < length (page_of before page) = subst (λ (p : ℕ). last.rid.slot < length (page_of before p)) here stands.inside in
    let held : row_length (slot_at (page_of before page) last.rid.slot) ≡ row_length last.after =
    ap (λ (p : ℕ). row_length (slot_at (page_of before p) last.rid.slot)) (sym here) ∙ ap row_length stands.holds in
    omega (arith, held, used-inside (page_of before page) last.rid.slot last.before there, need_of-undo before (undo_for lsn last) last rest page is here)

-- so with the compensation each page fits
undo_fits : (before : History) (last : Change) (rest : List Change) (lsn : ℕ) → pending_of before last.txn ≡ last ∷ rest → Stands before last → Fits before
    → Fits (undoes (undo_for lsn last) ∷ before)
undo_fits before last rest lsn is stands fits page =
    let u : Undo = undo_for lsn last in
    elim (cases_eq last.rid.page page) [
      | inl here ↦ rw (eq-eqb last.rid.page page here)
          (room_kept (λ k. need_of before k page) (λ k. need_of (undoes u ∷ before) k page) last.txn
          (used (page_of before page)) (used (set_slot (page_of before page) last.rid.slot last.before))
          (λ k other. need_of-undo_other before u k page (λ same. other (sym same))) (room_for_undo before last rest lsn page is stands here) (fits page))
      | inr other ↦
          let holds : page_of (undoes u ∷ before) page ≡ page_of before page = rw (ne_eqb last.rid.page page other) refl in
          fits_as_before before (undoes u ∷ before) page holds (λ txn. pending_on-undo u before last rest txn page is other) (fits page)
    ]

-- the compensation may come
compensation_comes : (before : History) (last : Change) (rest : List Change) (lsn : ℕ) → (IsFinished before last.txn → ⊥)
    → pending_of before last.txn ≡ last ∷ rest
    → MayUndo before (undo_for lsn last)
compensation_comes before last rest lsn unfinished is = record {
  unfinished = unfinished;
  last = last;
  is_last = (rest, is);
  undone_is = refl;
  rid_is = refl;
  next_is = refl;
  back_is = refl;
}

-- ---- the theorem

-- in a history in order each transaction's newest pending change stands
newest_stands : (history : History) → IsInOrder history → (txn : ℕ) (last : Change) (rest : List Change)
    → pending_of history txn ≡ last ∷ rest → Stands history last
newest_stands history ordered txn last rest is =
    record { inside = last_is_inside history txn last rest is; holds = last_is_held history ordered txn last rest is }

-- so its compensation may come after the history
undo_follows : (before : History) (last : Change) (rest : List Change) (lsn : ℕ) → IsInOrder before → (IsFinished before last.txn → ⊥)
    → pending_of before last.txn ≡ last ∷ rest
    → newest_lsn before < lsn → Follows before (undoes (undo_for lsn last))
undo_follows before last rest lsn ordered unfinished is above = record {
  above = above;
  may_come = compensation_comes before last rest lsn unfinished is;
  fits = undo_fits before last rest lsn is (newest_stands before ordered last.txn last rest is) (fits_in_order before ordered);
}

-- undone in a history in which its page has the right entry
undone_by : (start : Format) (before : History) (last : Change) (rest : List Change) (lsn : ℕ) → IsLegal start before
    → (IsFinished before last.txn → ⊥) → pending_of before last.txn ≡ last ∷ rest
    → entry_of before last.rid.page ≡ category_after start before last → newest_lsn before < lsn
    → IsUndone start before last.txn rest (undoes (undo_for lsn last) ∷ before)
undone_by start before last rest lsn legal unfinished is entered above = record {
  legal = (
    legal,
    undo_follows before last rest lsn (legal_is_in_order start before legal) unfinished is above,
    record {
      entered = entered;
      follow = entries_follow_undo start before (undo_for lsn last) (compensation_comes before last rest lsn unfinished is) entered
          (entries_follow start before legal);
    },
  );
  pending = pending_of-undo before (undo_for lsn last) last rest is;
  others = λ other differs. pending-undo_other (undo_for lsn last) before other (λ same. differs (sym same));
  unfinished = unfinished;
  rows = refl;
}

-- a transaction's last pending change, undone with the entry of its page before it
undone_mine : (start : Format) (before new : History) (last : Change) (rest : List Change) → IsLegal start before
    → (IsFinished before last.txn → ⊥) → pending_of before last.txn ≡ last ∷ rest
    → Undone start before last new → IsUndone start before last.txn rest new
undone_mine start before new last rest legal unfinished is undone =
    undone_either start before new last (IsUndone start before last.txn rest) undone
    (λ lsn above right. undone_by start before last rest lsn legal unfinished is right above)
    (λ next lsn above later wrong.
    let mid : History = enters (entry_for start next before last) ∷ before in
    let done : IsUndone start mid last.txn rest (undoes (undo_for lsn last) ∷ mid) =
    undone_by start mid last rest lsn (entry_is_legal start before last rest next legal unfinished is above wrong) unfinished is
    (rw (eq-eqb last.rid.page last.rid.page refl) refl) later in
    record { legal = done.legal; pending = done.pending; others = done.others; unfinished = done.unfinished; rows = done.rows })

-- an undo is in order
pub undoes_are_in_order : UndoesAreInOrder
undoes_are_in_order before txn lsn last rest ordered unfinished is above =
    let mine : last.txn ≡ txn = last_is_of before txn last rest is in (
      ordered,
      undo_follows before last rest lsn ordered (λ f. unfinished (subst (λ (t : ℕ). IsFinished before t) mine f))
          (ap (pending_of before) mine ∙ is) above,
    )

-- no undo lacks room
pub no_undo_lacks_room : NoUndoLacksRoom
no_undo_lacks_room start before new txn last rest legal unfinished is undone =
    let mine : last.txn ≡ txn = last_is_of before txn last rest is in
    subst (λ (t : ℕ). IsUndone start before t rest new) mine
    (undone_mine start before new last rest legal (λ f. unfinished (subst (λ (t : ℕ). IsFinished before t) mine f)) (ap (pending_of before) mine ∙ is) undone)
