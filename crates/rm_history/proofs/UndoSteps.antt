-- What holds after a change is undone, with its page's entry set before or not.
use Rattle.std.proofs.Common.{◌≡◌, inl, inr, ℕ, ◌<◌, List, ◌∷◌, sym, ap, subst, ◌∙◌}
use Rattle.rm_types.specs.declared.formats.Format.{Format}
use Rattle.rm_history.specs.Acts.{Change, History, undoes, enters, newest_lsn}
use Rattle.rm_history.specs.Contents.{entry_of}
use Rattle.rm_history.specs.Pending.{without_newest, all_pending}
use Rattle.rm_history.specs.Undoing.{category_after, entry_for, undo_for, Undone}
use Rattle.rm_history.proofs.AllPending.{without_newest-head}

-- what holds after the compensation alone, where the entry is right, and after both records, where it was wrong, holds after each undo
pub undone_either : (start : Format) (before new : History) (last : Change) (P : History → Type 0) → Undone start before last new
    → ((lsn : ℕ) → newest_lsn before < lsn → entry_of before last.rid.page ≡ category_after start before last → P (undoes (undo_for lsn last) ∷ before))
    → ((next lsn : ℕ) → newest_lsn before < next → next < lsn → (entry_of before last.rid.page ≡ category_after start before last → ⊥)
    → P (undoes (undo_for lsn last) ∷ enters (entry_for start next before last) ∷ before)) → P new
undone_either start before new last P undone alone both =
    subst P (sym undone.new_is) (elim undone.settles [
      | inl stays ↦ subst (λ (h : History). P (undoes (undo_for undone.lsn last) ∷ h)) (sym stays.1)
          (alone undone.lsn (subst (λ (h : History). newest_lsn h < undone.lsn) stays.1 undone.above) stays.0)
      | inr differs ↦ subst (λ (h : History). P (undoes (undo_for undone.lsn last) ∷ h)) (sym differs.1.2)
          (both differs.1.0 undone.lsn differs.1.1 (subst (λ (h : History). newest_lsn h < undone.lsn) differs.1.2 undone.above) differs.0)
    ])

-- all that is pending is the rest then
pub all_pending_undone : (start : Format) (before new : History) (last : Change) (rest : List Change) → all_pending before ≡ last ∷ rest
    → Undone start before last new → all_pending new ≡ rest
all_pending_undone start before new last rest is undone =
    let less : without_newest (all_pending before) last.txn ≡ rest = ap (λ (all : List Change). without_newest all last.txn) is
    ∙ without_newest-head last rest in
    undone_either start before new last (λ h. all_pending h ≡ rest) undone (λ lsn above right. less) (λ next lsn above later wrong. less)
