-- Restart's undo can be made of any history, and leaves a legal one, in which nothing is pending and the inventory is right.
use Rattle.std.proofs.Common.{◌≡◌, ◌⊎◌, inl, inr, ℕ, suc, ◌+◌, ◌<◌, ◌↔◌, List, [], ◌∷◌, length, map, refl, sym, ap, subst, ◌∙◌, arith}
use Rattle.std.specs.List.{range_with_len}
use Rattle.std.proofs.lemmas.Bool.{cases_eq, eq-eqb, ne_eqb}
use Rattle.rm_types.specs.declared.formats.Format.{Format}
use Rattle.rm_types.specs.declared.slots.Slot.{Slot}
use Rattle.rm_model.specs.Object.{Rows}
use Rattle.rm_model.proofs.Slots.{length-set_slot}
use Rattle.rm_history.specs.Acts.{Change, Undo, History, undoes, enters, ends, newest_lsn}
use Rattle.rm_model.specs.Pages.{slot_at}
use Rattle.rm_model.specs.Categories.{category_of}
use Rattle.rm_history.specs.Contents.{slot_of, page_of, entry_of}
use Rattle.rm_history.specs.Pending.{pending_of, of_txn, all_pending}
use Rattle.rm_history.specs.Transactions.{IsFinished, HasRecord}
use Rattle.rm_history.specs.Rows.{rows_of_log, settled_of}
use Rattle.rm_history.specs.Counts.{undo_count}
use Rattle.rm_history.specs.Rules.{IsInOrder}
use Rattle.rm_history.specs.Needs.{on_page}
use Rattle.rm_history.specs.Legal.{IsLegal}
use Rattle.rm_history.specs.Losers.{losers_of, IsAmong, AreRising}
use Rattle.rm_history.specs.Undoing.{category_after, entry_for, undo_for, Settles, Undone, AllUndone, AllEnded}
use Rattle.rm_history.specs.UndoLaws.{IsUndone, RestartsAreLegal, RestartsCompensateAll, RestartsExist}
use Rattle.rm_history.proofs.Prefixes.{legal_is_in_order}
use Rattle.rm_history.proofs.PendingLaws.{changed_none}
use Rattle.rm_history.proofs.Finished.{finished_or_not, last_has_record}
use Rattle.rm_history.proofs.Chains.{last_is_inside, last_is_unfinished}
use Rattle.rm_history.proofs.Holding.{pages_hold_what_is_committed, settled_when_nothing_is_pending}
use Rattle.rm_history.proofs.UndoTheorem.{entries_follow, no_undo_lacks_room}
use Rattle.rm_history.proofs.Rollbacks.{HasEnded, has_ended}
use Rattle.rm_history.proofs.AllPending.{pending_of-newest, pending_of-none}
use Rattle.rm_history.proofs.UndoSteps.{undone_either, all_pending_undone}
use Rattle.rm_history.proofs.Losers.{losers_rise, losers_are_unfinished}

-- ---- it can be made

-- the page's entry is right, or the record that sets it comes with the next LSN
settles_there : (start : Format) (before : History) (last : Change) → (settled : History) × Settles start before last settled
settles_there start before last = elim (cases_eq (entry_of before last.rid.page) (category_after start before last)) [
  | inl right ↦ (before, inl (right, refl))
  | inr wrong ↦
      let lsn : ℕ = suc (newest_lsn before) in
      (enters (entry_for start lsn before last) ∷ before, inr (wrong, (lsn, omega arith, refl)))
]

-- a change is undone,
undone_there : (start : Format) (before : History) (last : Change) → (new : History) × Undone start before last new
undone_there start before last =
    let found = settles_there start before last in
    let lsn : ℕ = suc (newest_lsn found.0) in
    (undoes (undo_for lsn last) ∷ found.0, record { settled = found.0; settles = found.1; lsn = lsn; above = omega arith; new_is = refl })

-- these changes are,
all_undone_there : (start : Format) (before : History) (all : List Change) → (new : History) × AllUndone start before all new
all_undone_there start before [] = (before, refl)
all_undone_there start before (last ∷ rest) =
    let one = undone_there start before last in
    let more = all_undone_there start one.0 rest in
    (more.0, (one.0, one.1, more.1))

-- and these transactions end
all_ended_there : (before : History) (txns : List ℕ) → (new : History) × AllEnded before txns new
all_ended_there before [] = (before, refl)
all_ended_there before (txn ∷ rest) =
    let lsn : ℕ = suc (newest_lsn before) in
    let mid : History = ends (record { lsn = lsn; txn = txn }) ∷ before in
    let more = all_ended_there mid rest in
    (more.0, (mid, record { lsn = lsn; above = omega arith; new_is = refl }, more.1))

-- so all that is pending is undone, and all losers end
pub restarts_exist : RestartsExist
restarts_exist start before =
    let undone = all_undone_there start before (all_pending before) in
    let ended = all_ended_there undone.0 (losers_of before) in
    (ended.0, record { undone = undone.0; undoes_all = undone.1; ends_all = ended.1 })

-- ---- all that is pending is undone

-- what one undo leaves: the same transactions finished, at the most one with one more record, and as many slots on each page
record Leaves (before : History) (txn : ℕ) (new : History) : Type 0 where
  finished : (any : ℕ) → IsFinished new any ↔ IsFinished before any
  records : (any : ℕ) → HasRecord new any → (txn ≡ any) ⊎ HasRecord before any
  sizes : (page : ℕ) → length (page_of new page) ≡ length (page_of before page)

-- the page has as many slots after the undo as before it, where the slot is one of them
size_stays : (before : History) (u : Undo) (page : ℕ) → u.rid.slot < length (page_of before u.rid.page)
    → length (page_of (undoes u ∷ before) page) ≡ length (page_of before page)
size_stays before u page inside = elim (cases_eq u.rid.page page) [
  | inl here ↦
      let slots : u.rid.slot < length (page_of before page) = subst (λ (p : ℕ). u.rid.slot < length (page_of before p)) here inside in
      rw (eq-eqb u.rid.page page here) (omega (arith, length-set_slot (page_of before page) u.rid.slot u.back, slots))
  | inr other ↦ rw (ne_eqb u.rid.page page other) refl
]

undone_leaves : (start : Format) (before new : History) (last : Change) → last.rid.slot < length (page_of before last.rid.page)
    → Undone start before last new → Leaves before last.txn new
undone_leaves start before new last inside undone =
    undone_either start before new last (Leaves before last.txn) undone
    (λ lsn above right. record {
      finished = λ any. (λ finished. finished, λ finished. finished);
      records = λ any has. has;
      sizes = λ page. size_stays before (undo_for lsn last) page inside;
    })
    (λ next lsn above later wrong. record {
      finished = λ any. (λ finished. finished, λ finished. finished);
      records = λ any has. elim has [ inl undone ↦ inl undone | inr earlier ↦ earlier ];
      sizes = λ page. size_stays before (undo_for lsn last) page inside;
    })

-- the history in which nothing is pending any more
record AllAreUndone (start : Format) (before new : History) : Type 0 where
  legal : IsLegal start new
  none : all_pending new ≡ []
  finished : (any : ℕ) → IsFinished new any ↔ IsFinished before any
  records : (any : ℕ) → HasRecord new any → HasRecord before any
  rows : rows_of_log new ≡ rows_of_log before
  sizes : (page : ℕ) → length (page_of new page) ≡ length (page_of before page)

-- undoing these, which are all that is pending, gives that history
all_are_undone : (start : Format) (before new : History) (all : List Change) → IsLegal start before → all_pending before ≡ all
    → AllUndone start before all new → AllAreUndone start before new
all_are_undone start before new [] legal is undone =
    subst (AllAreUndone start before) (sym undone)
    (record {
      legal = legal;
      none = is;
      finished = λ any. (λ finished. finished, λ finished. finished);
      records = λ any has. has;
      rows = refl;
      sizes = λ page. refl;
    })
all_are_undone start before new (last ∷ rest) legal is undone =
    let mid : History = undone.0 in
    let mine : pending_of before last.txn ≡ last ∷ of_txn last.txn rest = pending_of-newest before last rest is in
    let unfinished : IsFinished before last.txn → ⊥ =
    last_is_unfinished before (legal_is_in_order start before legal) last.txn last (of_txn last.txn rest) mine in
    let one : IsUndone start before last.txn (of_txn last.txn rest) mid =
    no_undo_lacks_room start before mid last.txn last (of_txn last.txn rest) legal unfinished mine undone.1 in
    let left : Leaves before last.txn mid = undone_leaves start before mid last (last_is_inside before last.txn last (of_txn last.txn rest) mine) undone.1 in
    let more : AllAreUndone start mid new =
    all_are_undone start mid new rest one.legal (all_pending_undone start before mid last rest is undone.1) undone.2 in
    record {
      legal = more.legal;
      none = more.none;
      finished = λ any. (
        λ finished. (left.finished any).0 ((more.finished any).0 finished),
        λ finished. (more.finished any).1 ((left.finished any).1 finished),
      );
      records = λ any has. elim (left.records any (more.records any has)) [
        | inl now ↦ subst (HasRecord before) now (last_has_record before last.txn last (of_txn last.txn rest) mine)
        | inr earlier ↦ earlier
      ];
      rows = more.rows ∙ one.rows;
      sizes = λ page. more.sizes page ∙ left.sizes page;
    }

-- ---- and all losers end

-- the history in which these transactions have ended
record AllHaveEnded (start : Format) (before : History) (txns : List ℕ) (new : History) : Type 0 where
  legal : IsLegal start new
  pending : (any : ℕ) → pending_of new any ≡ pending_of before any
  finished : (any : ℕ) → IsAmong txns any → IsFinished new any
  kept : (any : ℕ) → IsFinished before any → IsFinished new any
  records : (any : ℕ) → HasRecord new any → IsAmong txns any ⊎ HasRecord before any
  rows : rows_of_log new ≡ rows_of_log before
  sizes : (page : ℕ) → length (page_of new page) ≡ length (page_of before page)

-- the end of these, none of which is finished or has a change pending, gives that history
all_have_ended : (start : Format) (before new : History) (txns : List ℕ) → IsLegal start before → AreRising txns
    → ((txn : ℕ) → IsAmong txns txn → IsFinished before txn → ⊥)
    → ((txn : ℕ) → pending_of before txn ≡ []) → AllEnded before txns new → AllHaveEnded start before txns new
all_have_ended start before new [] legal rise unfinished none ended =
    subst (AllHaveEnded start before []) (sym ended)
    (record {
      legal = legal;
      pending = λ any. refl;
      finished = λ any among. absurd among;
      kept = λ any finished. finished;
      records = λ any has. inr has;
      rows = refl;
      sizes = λ page. refl;
    })
all_have_ended start before new (txn ∷ rest) legal rise unfinished none ended =
    let mid : History = ended.0 in
    let one : HasEnded start before txn mid = has_ended start before mid txn legal (unfinished txn (inl refl)) (none txn) ended.1 in
    let others : (any : ℕ) → IsAmong rest any → IsFinished mid any → ⊥ = λ any among finished. elim (one.no_more any finished) [
      | inl same ↦ let above : txn < any = rise.0 any among in omega (arith, same)
      | inr earlier ↦ unfinished any (inr among) earlier
    ] in
    let more : AllHaveEnded start mid rest new = all_have_ended start mid new rest one.legal rise.1 others (λ any. one.pending any ∙ none any) ended.2 in
    record {
      legal = more.legal;
      pending = λ any. more.pending any ∙ one.pending any;
      finished = λ any among. elim among [
        | inl first ↦ more.kept any (subst (IsFinished mid) first one.finished)
        | inr later ↦ more.finished any later
      ];
      kept = λ any finished. more.kept any (one.kept any finished);
      records = λ any has. elim (more.records any has) [
        | inl later ↦ inl (inr later)
        | inr earlier ↦ elim (one.records any earlier) [ inl first ↦ inl (inl first) | inr had ↦ inr had ]
      ];
      rows = more.rows ∙ one.rows;
      sizes = λ page. more.sizes page ∙ ap (λ (slots : List Slot). length slots) (one.pages page);
    }

-- ---- the pages then

-- a list of slots is what it holds at each number
slots_by_number : (f : ℕ → Slot) (slots : List Slot) (from : ℕ) → ((number : ℕ) → slot_at slots number ≡ f (number + from))
    → slots ≡ map f (range_with_len from (length slots))
slots_by_number f [] from holds = refl
slots_by_number f (slot ∷ slots) from holds =
    let rest : slots ≡ map f (range_with_len (from + 1) (length slots)) =
    slots_by_number f slots (from + 1) (λ number. holds (suc number) ∙ ap f (omega arith)) in
    let first : slot ≡ f from = holds 0 ∙ ap f (omega arith) in
    λ i. first i ∷ rest i

-- where nothing is pending each page is as it is with its committed rows alone
pub page_is_settled : (history : History) → IsInOrder history → ((txn : ℕ) → pending_of history txn ≡ []) → (page : ℕ)
    → page_of history page ≡ settled_of history page
page_is_settled history ordered none page =
    let held : ℕ → Slot = λ number. slot_of (rows_of_log history (record { page = page; slot = number })) in
    slots_by_number held (page_of history page) 0 (λ number. settled_when_nothing_is_pending history ordered none page number ∙ ap held (omega arith))

-- two histories with the same rows and as many slots on a page have one such page
settled_alike : (history other : History) (page : ℕ) → rows_of_log history ≡ rows_of_log other → length (page_of history page) ≡ length (page_of other page)
    → settled_of history page ≡ settled_of other page
settled_alike history other page rows sizes =
    λ i. map (λ number. slot_of (rows i (record { page = page; slot = number }))) (range_with_len 0 (sizes i))

-- ---- a compensation for each pending change

count_undone : (start : Format) (before new : History) (all : List Change) → AllUndone start before all new → undo_count new ≡ undo_count before + length all
count_undone start before new [] undone = omega (arith, ap undo_count undone)
count_undone start before new (last ∷ rest) undone =
    let one : undo_count undone.0 ≡ undo_count before + 1 =
    undone_either start before undone.0 last (λ h. undo_count h ≡ undo_count before + 1) undone.1
    (λ lsn above right. refl) (λ next lsn above later wrong. refl) in
    omega (arith, one, count_undone start undone.0 new rest undone.2)

count_ended : (before new : History) (txns : List ℕ) → AllEnded before txns new → undo_count new ≡ undo_count before
count_ended before new [] ended = ap undo_count ended
count_ended before new (txn ∷ rest) ended = count_ended ended.0 new rest ended.2 ∙ ap undo_count ended.1.new_is

pub restarts_compensate_all : RestartsCompensateAll
restarts_compensate_all start before new restarted =
    count_ended restarted.undone new (losers_of before) restarted.ends_all
    ∙ count_undone start before restarted.undone (all_pending before) restarted.undoes_all

-- ---- the theorem

-- where nothing is pending each entry is right
all_entered : (start : Format) (history : History) → IsLegal start history → ((txn : ℕ) → pending_of history txn ≡ []) → (page : ℕ)
    → entry_of history page ≡ category_of start (page_of history page)
all_entered start history legal none page = elim (entries_follow start history legal page) [
  | inl right ↦ right
  | inr pending ↦ absurd (pending.1 (ap (on_page page) (none pending.0)))
]

-- all that is pending is undone, all losers end, and the pages hold the committed rows then
pub restarts_are_legal : RestartsAreLegal
restarts_are_legal start before new legal restarted =
    let mid : History = restarted.undone in
    let undone : AllAreUndone start before mid = all_are_undone start before mid (all_pending before) legal refl restarted.undoes_all in
    let unfinished : (txn : ℕ) → IsAmong (losers_of before) txn → IsFinished mid txn → ⊥ =
    λ txn loses finished. ((losers_are_unfinished.exact before (legal_is_in_order start before legal) txn).0 loses).1 ((undone.finished txn).0 finished) in
    let over : AllHaveEnded start mid (losers_of before) new =
    all_have_ended start mid new (losers_of before) undone.legal (losers_rise before) unfinished (pending_of-none mid undone.none) restarted.ends_all in
    let none : (txn : ℕ) → pending_of new txn ≡ [] = λ txn. over.pending txn ∙ pending_of-none mid undone.none txn in
    let rows : rows_of_log new ≡ rows_of_log before = over.rows ∙ undone.rows in
    let had : (txn : ℕ) → HasRecord before txn → IsFinished new txn = λ txn has. elim (finished_or_not before txn) [
      | inl finished ↦ over.kept txn ((undone.finished txn).1 finished)
      | inr not ↦ over.finished txn ((losers_are_unfinished.exact before (legal_is_in_order start before legal) txn).1 (has, not))
    ] in
    let ordered : IsInOrder new = legal_is_in_order start new over.legal in
    let pages : (page : ℕ) → page_of new page ≡ settled_of before page = λ page.
    page_is_settled new ordered none page ∙ settled_alike new before page rows (over.sizes page ∙ undone.sizes page) in
    record {
      legal = over.legal;
      none = none;
      finished = λ txn has. elim (over.records txn has) [ inl loses ↦ over.finished txn loses | inr earlier ↦ had txn (undone.records txn earlier) ];
      rows = rows;
      settled = λ rid.
          pages_hold_what_is_committed new ordered rid (λ txn changed. changed_none (pending_of new txn) rid (none txn) changed)
          ∙ ap (λ (r : Rows). r rid) rows;
      pages = pages;
      entered = λ page. all_entered start new over.legal none page ∙ ap (category_of start) (pages page);
    }
