-- After which records the entries follow.
use Rattle.std.proofs.Common.{◌≡◌, inl, inr, ℕ, List, ◌∷◌, refl, sym, ap, subst, ◌∙◌}
use Rattle.std.proofs.lemmas.Bool.{cases_eq, eq-eqb, ne_eqb}
use Rattle.rm_types.specs.declared.formats.Format.{Format}
use Rattle.rm_types.specs.declared.numbers.Rid.{Rid}
use Rattle.rm_model.specs.Pages.{set_slot}
use Rattle.rm_history.specs.Acts.{Change, Undo, Entry, Finish, History, changes, undoes, enters, ends}
use Rattle.rm_model.specs.Categories.{category_of}
use Rattle.rm_history.specs.Contents.{page_of, format_after, entry_of}
use Rattle.rm_history.specs.Pending.{pending_of}
use Rattle.rm_history.specs.Needs.{on_page}
use Rattle.rm_history.specs.Rules.{MayUndo, MayEnter, MayEnd}
use Rattle.rm_history.specs.Legal.{category_with, IsPendingOn, FollowsOn, EntriesFollow}
use Rattle.rm_history.proofs.PendingSteps.{pending-change}
use Rattle.rm_history.proofs.PendingLaws.{pending-ended}
use Rattle.rm_history.proofs.NeedSums.{on_page-here, pending_on-change, pending_on-undo}

-- the page of a transaction's newest change has something pending
pub pending_there : (history : History) (txn : ℕ) (last : Change) (rest : List Change) (page : ℕ) → pending_of history txn ≡ last ∷ rest
    → last.rid.page ≡ page → IsPendingOn history page
pending_there history txn last rest page is here =
    let first : on_page page (pending_of history txn) ≡ last ∷ on_page page rest = ap (on_page page) is ∙ on_page-here page last rest here in
    (txn, λ none. cc)

-- a page with the entry, the slots and the pending changes that it had
pub follows_as_before : (start : Format) (before after : History) (page : ℕ) → entry_of after page ≡ entry_of before page
    → page_of after page ≡ page_of before page → ((txn : ℕ) → on_page page (pending_of after txn) ≡ on_page page (pending_of before txn))
    → FollowsOn start before page → FollowsOn start after page
follows_as_before start before after page entry holds pending follows = elim follows [
  | inl right ↦ inl (entry ∙ right ∙ sym (ap (category_of (format_after start before)) holds))
  | inr some ↦ inr (some.0, λ none. some.1 (sym (pending some.0) ∙ none))
]

-- a change's page has this change pending
pub entries_follow_change : (start : Format) (before : History) (c : Change) → EntriesFollow start before → EntriesFollow start (changes c ∷ before)
entries_follow_change start before c follow page = elim (cases_eq c.rid.page page) [
  | inl here ↦ inr (pending_there (changes c ∷ before) c.txn c (pending_of before c.txn) page (pending-change c before) here)
  | inr other ↦
      let holds : page_of (changes c ∷ before) page ≡ page_of before page = rw (ne_eqb c.rid.page page other) refl in
      follows_as_before start before (changes c ∷ before) page refl holds (λ txn. pending_on-change c before txn page other) (follow page)
]

-- the page of an undo has the right entry
pub entries_follow_undo : (start : Format) (before : History) (u : Undo) → MayUndo before u
    → entry_of before u.rid.page ≡ category_with start before u.rid u.back → EntriesFollow start before → EntriesFollow start (undoes u ∷ before)
entries_follow_undo start before u may entered follow page = elim (cases_eq u.rid.page page) [
  | inl here ↦ inl (rw (eq-eqb u.rid.page page here)
      (subst (λ (p : ℕ). entry_of before p ≡ category_of (format_after start before) (set_slot (page_of before p) u.rid.slot u.back)) here entered))
  | inr other ↦
      let holds : page_of (undoes u ∷ before) page ≡ page_of before page = rw (ne_eqb u.rid.page page other) refl in
      let elsewhere : may.last.rid.page ≡ page → ⊥ = λ same. other (ap (λ (rid : Rid). rid.page) may.rid_is ∙ same) in
      follows_as_before start before (undoes u ∷ before) page refl holds
      (λ txn. pending_on-undo u before may.last may.is_last.0 txn page may.is_last.1 elsewhere) (follow page)
]

-- the page that is entered has a pending change
pub entries_follow_entry : (start : Format) (before : History) (e : Entry) → MayEnter before e → EntriesFollow start before
    → EntriesFollow start (enters e ∷ before)
entries_follow_entry start before e may follow page = elim (cases_eq e.page page) [
  | inl here ↦ inr (pending_there before e.txn may.last may.is_last.0 page may.is_last.1 (may.page_is ∙ here))
  | inr other ↦ follows_as_before start before (enters e ∷ before) page (rw (ne_eqb e.page page other) refl) refl (λ txn. refl) (follow page)
]

-- and a transaction that ends has nothing pending
pub entries_follow_end : (start : Format) (before : History) (f : Finish) → MayEnd before f → EntriesFollow start before → EntriesFollow start (ends f ∷ before)
entries_follow_end start before f may follow page =
    follows_as_before start before (ends f ∷ before) page refl refl (λ txn. ap (on_page page) (pending-ended f before txn may)) (follow page)
