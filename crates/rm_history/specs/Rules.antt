-- Which record may come after which others, but for the inventory.
use Rattle.std.specs.Prelude.{◌≡◌, ℕ, ◌<◌, List, [], ◌∷◌, ◌⊎◌}
use Rattle.rm_types.specs.declared.places.Place.{Place}
use Rattle.rm_history.specs.Acts.{Act, Change, Undo, Entry, Finish, History, changes, undoes, enters, commits, ends, marks, lsn_of, newest_lsn}
use Rattle.rm_history.specs.Acts.{Mark, Listing, lists}
use Rattle.rm_model.specs.Pages.{slot_at}
use Rattle.rm_history.specs.Contents.{page_of}
use Rattle.rm_history.specs.Pending.{pending_of, last_of}
use Rattle.rm_history.specs.Transactions.{IsFinished, HasRecord, HasChange}
use Rattle.rm_history.specs.Needs.{need_of, Fits}

-- a change may come now
pub record MayChange (before : History) (c : Change) : Type 0 where
  pub unfinished : IsFinished before c.txn → ⊥
  -- its slot holds what the record says that it held; past the directory that is nothing
  pub held : slot_at (page_of before c.rid.page) c.rid.slot ≡ c.before
  -- no other unfinished transaction has a change record on the row id
  pub others : (other : ℕ) → (other ≡ c.txn → ⊥) → HasChange before other c.rid → IsFinished before other
  pub under_is : c.under ≡ last_of (pending_of before c.txn)
  pub need_is : c.need ≡ need_of before c.txn c.rid.page

-- the transaction's last pending change is this one
abbrev pub IsLast : History → ℕ → Change → Type 0
IsLast before txn last = (rest : List Change) × (pending_of before txn ≡ last ∷ rest)

-- the transaction's last pending change may be undone now, by this compensation
pub record MayUndo (before : History) (u : Undo) : Type 0 where
  pub unfinished : IsFinished before u.txn → ⊥
  pub last : Change
  pub is_last : IsLast before u.txn last
  pub undone_is : u.undone ≡ last.lsn
  pub rid_is : u.rid ≡ last.rid
  pub next_is : u.next ≡ last.under
  pub back_is : u.back ≡ last.before

-- a page's entry may be set now: the transaction's last pending change is on the page
pub record MayEnter (before : History) (e : Entry) : Type 0 where
  pub unfinished : IsFinished before e.txn → ⊥
  pub last : Change
  pub is_last : IsLast before e.txn last
  pub page_is : last.rid.page ≡ e.page

-- a rolled back transaction may end now
pub record MayEnd (before : History) (f : Finish) : Type 0 where
  pub unfinished : IsFinished before f.txn → ⊥
  pub none : pending_of before f.txn ≡ []

-- the place is in the list
abbrev pub IsIn : List Place → Place → Type 0
IsIn [] place = ⊥
IsIn (first ∷ places) place = (first ≡ place) ⊎ IsIn places place

-- a checkpoint may come now: it lists the unfinished transactions, each with its last pending record, and no others
pub record MayList (before : History) (l : Listing) : Type 0 where
  pub next_is : (txn : ℕ) → HasRecord before txn → txn < l.next
  pub all : (txn : ℕ) → (txn ≡ 0 → ⊥) → HasRecord before txn → (IsFinished before txn → ⊥)
      → IsIn l.losers (record { number = txn; at = last_of (pending_of before txn) })
  pub only : (loser : Place) → IsIn l.losers loser
      → HasRecord before loser.number × (IsFinished before loser.number → ⊥) × (loser.at ≡ last_of (pending_of before loser.number))

-- a record of no transaction may come now
abbrev pub MayMark : History → Mark → Type 0
MayMark before (lists l) = MayList before l

-- the record may come now
abbrev pub MayCome : History → Act → Type 0
MayCome before (changes c) = MayChange before c
MayCome before (undoes u) = MayUndo before u
MayCome before (enters e) = MayEnter before e
MayCome before (commits f) = IsFinished before f.txn → ⊥
MayCome before (ends f) = MayEnd before f
MayCome before (marks m) = MayMark before m

-- The record may come after these: its LSN is above theirs, it may come now, and with it each page has room.
pub record Follows (before : History) (act : Act) : Type 0 where
  pub above : newest_lsn before < lsn_of act
  pub may_come : MayCome before act
  pub fits : Fits (act ∷ before)

-- Each record might stand where it does. Of the inventory this says nothing.
abbrev pub IsInOrder : History → Type 0
IsInOrder [] = Unit {0}
IsInOrder (act ∷ before) = IsInOrder before × Follows before act
