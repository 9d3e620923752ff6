-- What holds of each undo, of each rollback and of each restart.
use Rattle.std.specs.Prelude.{◌≡◌, ℕ, ◌+◌, ◌<◌, List, [], ◌∷◌, length}
use Rattle.rm_types.specs.declared.formats.Format.{Format}
use Rattle.rm_types.specs.declared.numbers.Rid.{Rid}
use Rattle.rm_model.specs.Pages.{row_at}
use Rattle.rm_history.specs.Acts.{Change, History, undoes, enters, newest_lsn}
use Rattle.rm_model.specs.Categories.{category_of}
use Rattle.rm_history.specs.Contents.{page_of, format_after, entry_of}
use Rattle.rm_history.specs.Pending.{pending_of, all_pending}
use Rattle.rm_history.specs.Transactions.{IsFinished, HasRecord}
use Rattle.rm_history.specs.Rows.{rows_of_log, settled_of}
use Rattle.rm_history.specs.Counts.{undo_count}
use Rattle.rm_history.specs.Rules.{IsInOrder}
use Rattle.rm_history.specs.Legal.{IsLegal}
use Rattle.rm_history.specs.Losers.{losers_of}
use Rattle.rm_history.specs.Undoing.{category_after, entry_for, undo_for, Undone, Ended, RolledBack, RolledBackTo, Restarted}
use Rattle.rm_history.specs.UndoBytes.{inventory_record, compensate_record, end_record, bytes_of, entry_bytes, undo_bytes}

-- Undoing a transaction's last pending change is in order: its page always has the room. Of the inventory this says nothing.
abbrev pub UndoesAreInOrder : Type 0
UndoesAreInOrder = (before : History) (txn lsn : ℕ) (last : Change) (rest : List Change) → IsInOrder before → (IsFinished before txn → ⊥)
    → pending_of before txn ≡ last ∷ rest → newest_lsn before < lsn → IsInOrder (undoes (undo_for lsn last) ∷ before)

-- what undoing a change leaves, with the page's entry settled before: a legal history, with the same rows
pub record IsUndone (start : Format) (before : History) (txn : ℕ) (rest : List Change) (new : History) : Type 0 where
  pub legal : IsLegal start new
  pub pending : pending_of new txn ≡ rest
  pub others : (other : ℕ) → (other ≡ txn → ⊥) → pending_of new other ≡ pending_of before other
  pub unfinished : IsFinished new txn → ⊥
  pub rows : rows_of_log new ≡ rows_of_log before

-- so it is with the last pending change of each unfinished transaction
abbrev pub NoUndoLacksRoom : Type 0
NoUndoLacksRoom = (start : Format) (before new : History) (txn : ℕ) (last : Change) (rest : List Change) → IsLegal start before → (IsFinished before txn → ⊥)
    → pending_of before txn ≡ last ∷ rest → Undone start before last new → IsUndone start before txn rest new

-- a rollback gives a legal history too
abbrev pub RollbacksAreLegal : Type 0
RollbacksAreLegal = (start : Format) (before new : History) (txn : ℕ) → IsLegal start before → (IsFinished before txn → ⊥) → RolledBack start before txn new
    → IsLegal start new × IsFinished new txn × (rows_of_log new ≡ rows_of_log before)

-- a partial rollback gives a legal history too, with the same rows, in which the rest is pending
abbrev pub PartialRollbacksAreLegal : Type 0
PartialRollbacksAreLegal = (start : Format) (before new : History) (txn : ℕ) (rest : List Change) → IsLegal start before
    → (IsFinished before txn → ⊥) → RolledBackTo start before txn rest new → IsUndone start before txn rest new

-- what restart's undo leaves: nothing is pending, each page has its slots, with the committed rows and nothing else, and each entry is right
pub record IsRestarted (start : Format) (before new : History) : Type 0 where
  pub legal : IsLegal start new
  pub none : (txn : ℕ) → pending_of new txn ≡ []
  pub finished : (txn : ℕ) → HasRecord new txn → IsFinished new txn
  pub rows : rows_of_log new ≡ rows_of_log before
  pub settled : (rid : Rid) → row_at (page_of new rid.page) rid.slot ≡ rows_of_log before rid
  pub pages : (page : ℕ) → page_of new page ≡ settled_of before page
  pub entered : (page : ℕ) → entry_of new page ≡ category_of (format_after start before) (settled_of before page)

-- so it is with each legal history
abbrev pub RestartsAreLegal : Type 0
RestartsAreLegal = (start : Format) (before new : History) → IsLegal start before → Restarted start before new → IsRestarted start before new

-- it appends a compensation for each pending change
abbrev pub RestartsCompensateAll : Type 0
RestartsCompensateAll = (start : Format) (before new : History) → Restarted start before new → undo_count new ≡ undo_count before + length (all_pending before)

-- the undo of a history can be made
abbrev pub RestartsExist : Type 0
RestartsExist = (start : Format) (before : History) → (new : History) × Restarted start before new

-- The bytes of the undo go down by just those of each record that it appends, whatever the LSNs are.
pub record UndoBytesGoDown : Type 0 where
  pub entered : (start : Format) (before : History) (last : Change) (rest : List Change) (lsn : ℕ) → IsInOrder before → all_pending before ≡ last ∷ rest
      → (entry_of before last.rid.page ≡ category_after start before last → ⊥) → newest_lsn before < lsn
      → undo_bytes start before
      ≡ bytes_of (inventory_record (entry_for start 0 before last)) + undo_bytes start (enters (entry_for start lsn before last) ∷ before)
  pub undone : (start : Format) (before new : History) (last : Change) (rest : List Change)
      → IsInOrder before → all_pending before ≡ last ∷ rest → Undone start before last new
      → undo_bytes start before
      ≡ entry_bytes start before last + bytes_of (compensate_record (undo_for 0 last)) + undo_bytes start new
  pub ended : (start : Format) (before new : History) (txn : ℕ) (rest : List ℕ) → all_pending before ≡ [] → losers_of before ≡ txn ∷ rest → Ended before txn new
      → undo_bytes start before ≡ bytes_of (end_record txn) + undo_bytes start new
