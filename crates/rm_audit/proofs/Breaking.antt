-- A legal history breaks no condition, and a first broken condition is found by parts.
use Rattle.std.proofs.Common.{◌≡◌, ℕ, List, [], ◌∷◌, ◌++◌, refl, ap, ◌∙◌, inl, inr}
use Rattle.rm_types.specs.declared.formats.Format.{Format}
use Rattle.rm_history.specs.Acts.{Act, Mark, Change, Undo, Entry, Listing, History, lists, changes, undoes, enters, commits, ends, marks}
use Rattle.rm_history.specs.Pending.{pending_of, last_of}
use Rattle.rm_history.specs.Rules.{IsLast, MayList, MayMark, MayCome}
use Rattle.rm_history.specs.Legal.{category_with, IsEntry, IsEntered, IsLegal}
use Rattle.rm_audit.specs.declared.verdicts.Illegal.{Illegal}
use Rattle.rm_audit.specs.declared.verdicts.Illegal.TheVariants as why
use Rattle.rm_audit.specs.Breaks.{UndoBreaks, ListingBreaks, Breaks}
use Rattle.rm_audit.specs.Verdicts.{marking_of, coming_of, entering_of, conditions_of, IsFirstBroken}

-- the record breaks none of these conditions
abbrev pub BreaksNone : Format → List Illegal → History → Act → Type 0
BreaksNone format [] before act = Unit {0}
BreaksNone format (x ∷ xs) before act = (Breaks format x before act → ⊥) × BreaksNone format xs before act

-- ---- lists of conditions

-- where none of two parts is broken, none of both is
none_append : (format : Format) (xs ys : List Illegal) (before : History) (act : Act) → BreaksNone format xs before act
    → BreaksNone format ys before act → BreaksNone format (xs ++ ys) before act
none_append format [] ys before act none also = also
none_append format (x ∷ xs) ys before act none also = (none.0, none_append format xs ys before act none.1 also)

-- where none is broken, none is broken first
none_first : (format : Format) (xs : List Illegal) (before : History) (act : Act) (broken : Illegal) → BreaksNone format xs before act
    → IsFirstBroken format xs before act broken → ⊥
none_first format [] before act broken none first = first
none_first format (x ∷ xs) before act broken none first =
    elim first [ inl here ↦ none.0 here.1 | inr later ↦ none_first format xs before act broken none.1 later.1 ]

-- the first of a prefix that is broken is the first of all
pub first_append : (format : Format) (xs ys : List Illegal) (before : History) (act : Act) (broken : Illegal)
    → IsFirstBroken format xs before act broken → IsFirstBroken format (xs ++ ys) before act broken
first_append format [] ys before act broken first = absurd first
first_append format (x ∷ xs) ys before act broken first =
    elim first [ inl here ↦ inl here | inr later ↦ inr (later.0, first_append format xs ys before act broken later.1) ]

-- where none of a prefix is broken, the first of the rest is the first of all
pub first_after : (format : Format) (xs ys : List Illegal) (before : History) (act : Act) (broken : Illegal)
    → BreaksNone format xs before act → IsFirstBroken format ys before act broken
    → IsFirstBroken format (xs ++ ys) before act broken
first_after format [] ys before act broken none first = first
first_after format (x ∷ xs) ys before act broken none first = inr (none.0, first_after format xs ys before act broken none.1 first)

-- ---- what is met is not broken

-- the first of a list is one
same_last : (pending : List Change) (last other : Change) (rest others : List Change) → pending ≡ last ∷ rest → pending ≡ other ∷ others → other ≡ last
same_last pending last other rest others is also = cc

-- and so are two changes that are the last
last_is : (before : History) (txn : ℕ) (last other : Change) → IsLast before txn last → IsLast before txn other → other ≡ last
last_is before txn last other is also = same_last (pending_of before txn) last other is.0 also.0 is.1 also.1

-- a compensation that names the last pending change
pub undone_met : (before : History) (u : Undo) (last : Change) → IsLast before u.txn last → u.undone ≡ last.lsn → UndoBreaks why.Undone before u → ⊥
undone_met before u last is same breaks = breaks last is same

-- one on its row id
pub rid_met : (before : History) (u : Undo) (last : Change) → IsLast before u.txn last → u.rid ≡ last.rid → UndoBreaks why.Rid before u → ⊥
rid_met before u last is same breaks = breaks.2 (same ∙ ap (λ (x : Change). x.rid) (last_is before u.txn breaks.0 last breaks.1 is))

-- one that names the pending record below it
pub next_met : (before : History) (u : Undo) (last : Change) → IsLast before u.txn last → u.next ≡ last.under → UndoBreaks why.Next before u → ⊥
next_met before u last is same breaks = breaks.2 (same ∙ ap (λ (x : Change). x.under) (last_is before u.txn breaks.0 last breaks.1 is))

-- one that puts back what its slot held before it
back_met : (before : History) (u : Undo) (last : Change) → IsLast before u.txn last → u.back ≡ last.before → UndoBreaks why.Back before u → ⊥
back_met before u last is same breaks = breaks.2 (same ∙ ap (λ (x : Change). x.before) (last_is before u.txn breaks.0 last breaks.1 is))

-- a checkpoint that lists each loser
forgotten_met : (before : History) (l : Listing) → MayList before l → ListingBreaks why.Forgotten before l → ⊥
forgotten_met before l may breaks =
    breaks.4 (record { number = breaks.0; at = last_of (pending_of before breaks.0) }) (may.all breaks.0 breaks.1 breaks.2 breaks.3) refl

-- one that lists losers alone
too_many_met : (before : History) (l : Listing) → MayList before l → ListingBreaks why.TooMany before l → ⊥
too_many_met before l may breaks = let is = may.only breaks.0 breaks.1 in is.1 (breaks.2 is.0)

-- one that lists each with its last pending change
loser_place_met : (before : History) (l : Listing) → MayList before l → ListingBreaks why.LoserPlace before l → ⊥
loser_place_met before l may breaks = let is = may.only breaks.0 breaks.1 in breaks.2 is.2

-- an inventory record with the right category
category_met : (format : Format) (before : History) (e : Entry) → IsEntry format before e → Breaks format why.WrongCategory before (enters e) → ⊥
category_met format before e is breaks =
    elim is.right [
      | inl now ↦ breaks.0 now
      | inr undone ↦ breaks.1.2
          (undone.2 ∙ ap (λ (x : Change). category_with format before x.rid x.before) (last_is before e.txn breaks.1.0 undone.0 breaks.1.1 undone.1))
    ]

-- a record of no transaction that may come breaks none of what may come
mark_breaks_none : (format : Format) (m : Mark) (before : History) → MayMark before m → BreaksNone format (marking_of m) before (marks m)
mark_breaks_none format (lists l) before may =
    (λ above. above.2 (may.next_is above.0 above.1), (forgotten_met before l may, (too_many_met before l may, (loser_place_met before l may, tt))))

-- a record that may come breaks none of what may come
pub may_breaks_none : (format : Format) (act : Act) (before : History) → MayCome before act → BreaksNone format (coming_of act) before act
may_breaks_none format (changes c) before may =
    (may.unfinished, (λ no. no may.held, (λ held. held.3 (may.others held.0 held.1 held.2), (λ no. no may.under_is, (λ no. no may.need_is, tt)))))
may_breaks_none format (undoes u) before may = (
  may.unfinished,
  (
    undone_met before u may.last may.is_last may.undone_is,
    (
      rid_met before u may.last may.is_last may.rid_is,
      (next_met before u may.last may.is_last may.next_is, (back_met before u may.last may.is_last may.back_is, tt)),
    ),
  ),
)
may_breaks_none format (enters e) before may = (may.unfinished, (λ no. no may.last may.is_last may.page_is, tt))
may_breaks_none format (commits f) before may = (may, tt)
may_breaks_none format (ends f) before may = (may.unfinished, (λ some. some may.none, tt))
may_breaks_none format (marks m) before may = mark_breaks_none format m before may

-- a record that has what it asks of the inventory breaks none of that
pub entered_breaks_none : (format : Format) (act : Act) (before : History) → IsEntered format before act → BreaksNone format (entering_of act) before act
entered_breaks_none format (changes c) before is = tt
entered_breaks_none format (undoes u) before is = (λ no. no is, tt)
entered_breaks_none format (enters e) before is = (λ same. is.differs same, (category_met format before e is, tt))
entered_breaks_none format (commits f) before is = tt
entered_breaks_none format (ends f) before is = tt
entered_breaks_none format (marks m) before is = tt

-- a record with which a history is legal breaks none of its conditions
legal_breaks_none : (format : Format) (act : Act) (before : History) → IsLegal format (act ∷ before) → BreaksNone format (conditions_of act) before act
legal_breaks_none format act before legal =
    let last : BreaksNone format (why.EntryBehind ∷ []) before act = (λ no. no legal.2.follow, tt) in
    let inventory : BreaksNone format (entering_of act ++ why.EntryBehind ∷ []) before act =
    none_append format (entering_of act) (why.EntryBehind ∷ []) before act (entered_breaks_none format act before legal.2.entered) last in (
      λ no. no legal.1.above,
      none_append format (coming_of act) (why.NoRoom ∷ entering_of act ++ why.EntryBehind ∷ []) before act
          (may_breaks_none format act before legal.1.may_come) (λ no. no legal.1.fits, inventory),
    )

-- a record that breaks one first makes no legal history
pub first_refused : (format : Format) (act : Act) (before : History) (broken : Illegal)
    → IsFirstBroken format (conditions_of act) before act broken → IsLegal format (act ∷ before) → ⊥
first_refused format act before broken first legal = none_first format (conditions_of act) before act broken (legal_breaks_none format act before legal) first
