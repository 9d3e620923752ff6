-- How what is pending is undone, in a log that begins in a given format: one change, a transaction, and all that a crash left unfinished.
use Rattle.std.specs.Prelude.{◌≡◌, ℕ, ◌<◌, List, [], ◌∷◌, ◌++◌, ◌⊎◌}
use Rattle.rm_types.specs.declared.formats.Format.{Format}
use Rattle.rm_history.specs.Acts.{Change, Undo, Entry, History, undoes, enters, ends, newest_lsn}
use Rattle.rm_history.specs.Contents.{entry_of}
use Rattle.rm_history.specs.Pending.{pending_of, all_pending}
use Rattle.rm_history.specs.Legal.{category_with}
use Rattle.rm_history.specs.Losers.{losers_of}

-- the category of the change's page once the change is undone
abbrev pub category_after : Format → History → Change → ℕ
category_after start history last = category_with start history last.rid last.before

-- the record that enters it, and the one that undoes the change, with these LSNs
abbrev pub entry_for : Format → ℕ → History → Change → Entry
entry_for start lsn history last = record { lsn = lsn; txn = last.txn; page = last.rid.page; category = category_after start history last }

abbrev pub undo_for : ℕ → Change → Undo
undo_for lsn last = record { lsn = lsn; txn = last.txn; undone = last.lsn; next = last.under; rid = last.rid; back = last.before }

-- before a change is undone: where the page's entry will not be right, it is entered
abbrev pub Settles : Format → History → Change → History → Type 0
Settles start before last new =
    ((entry_of before last.rid.page ≡ category_after start before last) × (new ≡ before))
    ⊎ ((entry_of before last.rid.page ≡ category_after start before last → ⊥)
    × ((lsn : ℕ) × (newest_lsn before < lsn) × (new ≡ enters (entry_for start lsn before last) ∷ before)))

-- a change is undone
pub record Undone (start : Format) (before : History) (last : Change) (new : History) : Type 0 where
  pub settled : History
  pub settles : Settles start before last settled
  pub lsn : ℕ
  pub above : newest_lsn settled < lsn
  pub new_is : new ≡ undoes (undo_for lsn last) ∷ settled

-- these changes are undone, one after the other
abbrev pub AllUndone : Format → History → List Change → History → Type 0
AllUndone start before [] new = new ≡ before
AllUndone start before (last ∷ rest) new = (mid : History) × Undone start before last mid × AllUndone start mid rest new

-- a transaction ends
pub record Ended (before : History) (txn : ℕ) (new : History) : Type 0 where
  pub lsn : ℕ
  pub above : newest_lsn before < lsn
  pub new_is : new ≡ ends (record { lsn = lsn; txn = txn }) ∷ before

-- these transactions end, one after the other
abbrev pub AllEnded : History → List ℕ → History → Type 0
AllEnded before [] new = new ≡ before
AllEnded before (txn ∷ rest) new = (mid : History) × Ended before txn mid × AllEnded mid rest new

-- A rollback: the transaction's pending changes are undone, the newest first, and it ends.
pub record RolledBack (start : Format) (before : History) (txn : ℕ) (new : History) : Type 0 where
  pub undone : History
  pub undoes_all : AllUndone start before (pending_of before txn) undone
  pub ends_it : Ended undone txn new

-- A partial rollback: the newest of the transaction's pending changes are undone, and the rest stay pending.
pub record RolledBackTo (start : Format) (before : History) (txn : ℕ) (rest : List Change) (new : History) : Type 0 where
  pub newest : List Change
  pub cut : pending_of before txn ≡ newest ++ rest
  pub undoes_newest : AllUndone start before newest new

-- Restart's undo: all that is pending is undone, the newest first, and then each loser ends.
pub record Restarted (start : Format) (before new : History) : Type 0 where
  pub undone : History
  pub undoes_all : AllUndone start before (all_pending before) undone
  pub ends_all : AllEnded undone (losers_of before) new
