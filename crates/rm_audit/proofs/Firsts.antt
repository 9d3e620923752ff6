-- Which of its conditions a record breaks first, by the parts in which an audit looks at them.
use Rattle.std.proofs.Common.{◌≡◌, ◌<◌, [], ◌∷◌, ◌++◌, refl, inl, inr}
use Rattle.rm_types.specs.declared.formats.Format.{Format}
use Rattle.rm_history.specs.Acts.{Act, Change, Undo, History, undoes, lsn_of, newest_lsn}
use Rattle.rm_history.specs.Transactions.{IsFinished}
use Rattle.rm_history.specs.Needs.{Fits}
use Rattle.rm_history.specs.Rules.{IsLast, MayCome}
use Rattle.rm_history.specs.Legal.{IsEntered, EntriesFollow}
use Rattle.rm_audit.specs.declared.verdicts.Illegal.{Illegal}
use Rattle.rm_audit.specs.declared.verdicts.Illegal.TheVariants as why
use Rattle.rm_audit.specs.Verdicts.{coming_of, entering_of, conditions_of, IsFirstBroken}
use Rattle.rm_audit.proofs.Breaking.{undone_met, rid_met, next_met, first_append, first_after, may_breaks_none, entered_breaks_none}

-- ---- a compensation

-- it breaks the row id first where it names the last pending change
pub rid_first : (format : Format) (before : History) (u : Undo) (last : Change) → (IsFinished before u.txn → ⊥) → IsLast before u.txn last
    → u.undone ≡ last.lsn → (u.rid ≡ last.rid → ⊥)
    → IsFirstBroken format (coming_of (undoes u)) before (undoes u) why.Rid
rid_first format before u last unfinished is undone other = inr (unfinished, inr (undone_met before u last is undone, inl (refl, (last, is, other))))

-- the pending record below, where the row id is right too
pub next_first : (format : Format) (before : History) (u : Undo) (last : Change) → (IsFinished before u.txn → ⊥) → IsLast before u.txn last
    → u.undone ≡ last.lsn → u.rid ≡ last.rid → (u.next ≡ last.under → ⊥)
    → IsFirstBroken format (coming_of (undoes u)) before (undoes u) why.Next
next_first format before u last unfinished is undone rid other =
    inr (unfinished, inr (undone_met before u last is undone, inr (rid_met before u last is rid, inl (refl, (last, is, other)))))

-- what it puts back, where that record is right too
pub back_first : (format : Format) (before : History) (u : Undo) (last : Change) → (IsFinished before u.txn → ⊥) → IsLast before u.txn last
    → u.undone ≡ last.lsn → u.rid ≡ last.rid → u.next ≡ last.under → (u.back ≡ last.before → ⊥)
    → IsFirstBroken format (coming_of (undoes u)) before (undoes u) why.Back
back_first format before u last unfinished is undone rid next other =
    inr (
      unfinished,
      inr (
        undone_met before u last is undone,
        inr (rid_met before u last is rid, inr (next_met before u last is next, inl (refl, (last, is, other)))),
      ),
    )

-- ---- any record

-- what is broken first of what may come is the first of all, where the LSN is above
pub coming_first : (format : Format) (act : Act) (before : History) (broken : Illegal) → newest_lsn before < lsn_of act
    → IsFirstBroken format (coming_of act) before act broken
    → IsFirstBroken format (conditions_of act) before act broken
coming_first format act before broken above first =
    inr (λ no. no above, first_append format (coming_of act) (why.NoRoom ∷ entering_of act ++ why.EntryBehind ∷ []) before act broken first)

-- what is broken first of the conditions after those, where the record may come
after_first : (format : Format) (act : Act) (before : History) (broken : Illegal) → newest_lsn before < lsn_of act → MayCome before act
    → IsFirstBroken format (why.NoRoom ∷ entering_of act ++ why.EntryBehind ∷ []) before act broken → IsFirstBroken format (conditions_of act) before act broken
after_first format act before broken above may first =
    inr (
      λ no. no above,
      first_after format (coming_of act) (why.NoRoom ∷ entering_of act ++ why.EntryBehind ∷ []) before act broken
          (may_breaks_none format act before may) first,
    )

-- the room, where the record may come
pub room_first : (format : Format) (act : Act) (before : History) → newest_lsn before < lsn_of act → MayCome before act → (Fits (act ∷ before) → ⊥)
    → IsFirstBroken format (conditions_of act) before act why.NoRoom
room_first format act before above may none = after_first format act before why.NoRoom above may (inl (refl, none))

-- what is broken first of what it asks of the inventory, where there is room
pub entering_first : (format : Format) (act : Act) (before : History) (broken : Illegal) → newest_lsn before < lsn_of act
    → MayCome before act → Fits (act ∷ before)
    → IsFirstBroken format (entering_of act) before act broken → IsFirstBroken format (conditions_of act) before act broken
entering_first format act before broken above may fits first =
    after_first format act before broken above may (inr (λ no. no fits, first_append format (entering_of act) (why.EntryBehind ∷ []) before act broken first))

-- the inventory after it, where it has what it asks
pub entry_behind_first : (format : Format) (act : Act) (before : History) → newest_lsn before < lsn_of act → MayCome before act
    → Fits (act ∷ before) → IsEntered format before act
    → (EntriesFollow format (act ∷ before) → ⊥) → IsFirstBroken format (conditions_of act) before act why.EntryBehind
entry_behind_first format act before above may fits entered not =
    after_first format act before why.EntryBehind above may
    (inr (
      λ no. no fits,
      first_after format (entering_of act) (why.EntryBehind ∷ []) before act why.EntryBehind
          (entered_breaks_none format act before entered) (inl (refl, not)),
    ))
