-- Which conditions of a legal log a record breaks.
use Rattle.std.specs.Prelude.{◌≡◌, ℕ, ◌<◌, [], ◌∷◌}
use Rattle.rm_types.specs.declared.formats.Format.{Format}
use Rattle.rm_types.specs.declared.places.Place.{Place}
use Rattle.rm_history.specs.Acts.{Act, Change, Undo, Entry, Finish, History, changes, undoes, enters, commits, ends, marks, lsn_of, newest_lsn}
use Rattle.rm_history.specs.Acts.{Mark, Listing, lists}
use Rattle.rm_model.specs.Pages.{slot_at}
use Rattle.rm_model.specs.Categories.{category_of}
use Rattle.rm_history.specs.Contents.{page_of, format_after, entry_of}
use Rattle.rm_history.specs.Pending.{pending_of, last_of}
use Rattle.rm_history.specs.Transactions.{IsFinished, HasRecord, HasChange}
use Rattle.rm_history.specs.Needs.{need_of, Fits}
use Rattle.rm_history.specs.Rules.{IsLast, IsIn}
use Rattle.rm_history.specs.Legal.{category_with, EntriesFollow}
use Rattle.rm_audit.specs.declared.verdicts.Illegal.{Illegal}
use Rattle.rm_audit.specs.declared.verdicts.Illegal.TheVariants as why

-- the transaction of a record, if it is of one, is finished
abbrev pub IsOfFinished : History → Act → Type 0
IsOfFinished before (changes c) = IsFinished before c.txn
IsOfFinished before (undoes u) = IsFinished before u.txn
IsOfFinished before (enters e) = IsFinished before e.txn
IsOfFinished before (commits f) = IsFinished before f.txn
IsOfFinished before (ends f) = IsFinished before f.txn
IsOfFinished before (marks m) = ⊥

-- what a change may break
abbrev pub ChangeBreaks : Illegal → History → Change → Type 0
ChangeBreaks why.NotHeld before c = slot_at (page_of before c.rid.page) c.rid.slot ≡ c.before → ⊥
ChangeBreaks why.Others before c = (other : ℕ) × (other ≡ c.txn → ⊥) × HasChange before other c.rid × (IsFinished before other → ⊥)
ChangeBreaks why.Under before c = c.under ≡ last_of (pending_of before c.txn) → ⊥
ChangeBreaks why.Need before c = c.need ≡ need_of before c.txn c.rid.page → ⊥
ChangeBreaks _ before c = ⊥

-- what a compensation may break
abbrev pub UndoBreaks : Illegal → History → Undo → Type 0
UndoBreaks why.Undone before u = (last : Change) → IsLast before u.txn last → u.undone ≡ last.lsn → ⊥
UndoBreaks why.Rid before u = (last : Change) × IsLast before u.txn last × (u.rid ≡ last.rid → ⊥)
UndoBreaks why.Next before u = (last : Change) × IsLast before u.txn last × (u.next ≡ last.under → ⊥)
UndoBreaks why.Back before u = (last : Change) × IsLast before u.txn last × (u.back ≡ last.before → ⊥)
UndoBreaks _ before u = ⊥

-- what an inventory record may break
abbrev pub EntryBreaks : Illegal → History → Entry → Type 0
EntryBreaks why.NoChange before e = (last : Change) → IsLast before e.txn last → last.rid.page ≡ e.page → ⊥
EntryBreaks _ before e = ⊥

-- what a checkpoint may break
abbrev pub ListingBreaks : Illegal → History → Listing → Type 0
ListingBreaks why.NextId before l = (txn : ℕ) × HasRecord before txn × (txn < l.next → ⊥)
ListingBreaks why.Forgotten before l = (txn : ℕ) × (txn ≡ 0 → ⊥) × HasRecord before txn × (IsFinished before txn → ⊥)
    × ((loser : Place) → IsIn l.losers loser → loser.number ≡ txn → ⊥)
ListingBreaks why.TooMany before l = (loser : Place) × IsIn l.losers loser × (HasRecord before loser.number → IsFinished before loser.number)
ListingBreaks why.LoserPlace before l = (loser : Place) × IsIn l.losers loser × (loser.at ≡ last_of (pending_of before loser.number) → ⊥)
ListingBreaks _ before l = ⊥

-- what a record of no transaction may break
abbrev pub MarkBreaks : Illegal → History → Mark → Type 0
MarkBreaks why before (lists l) = ListingBreaks why before l

-- what the end of a transaction may break
abbrev pub EndBreaks : Illegal → History → Finish → Type 0
EndBreaks why.StillPending before f = pending_of before f.txn ≡ [] → ⊥
EndBreaks _ before f = ⊥

-- what a record may break of what may come after these
abbrev pub ComingBreaks : Illegal → History → Act → Type 0
ComingBreaks why before (changes c) = ChangeBreaks why before c
ComingBreaks why before (undoes u) = UndoBreaks why before u
ComingBreaks why before (enters e) = EntryBreaks why before e
ComingBreaks why before (commits f) = ⊥
ComingBreaks why before (ends f) = EndBreaks why before f
ComingBreaks why before (marks m) = MarkBreaks why before m

-- The record breaks this condition after these. What it asks of the inventory is broken by undoes and entries alone.
abbrev pub Breaks : Format → Illegal → History → Act → Type 0
Breaks start why.NotAbove before act = newest_lsn before < lsn_of act → ⊥
Breaks start why.Finished before act = IsOfFinished before act
Breaks start why.NoRoom before act = Fits (act ∷ before) → ⊥
Breaks start why.Entry before (undoes u) = entry_of before u.rid.page ≡ category_with start before u.rid u.back → ⊥
Breaks start why.SameCategory before (enters e) = e.category ≡ entry_of before e.page
Breaks start why.WrongCategory before (enters e) = (e.category ≡ category_of (format_after start before) (page_of before e.page) → ⊥)
    × ((last : Change) × IsLast before e.txn last × (e.category ≡ category_with start before last.rid last.before → ⊥))
Breaks start why.EntryBehind before act = EntriesFollow start (act ∷ before) → ⊥
Breaks start other before act = ComingBreaks other before act
