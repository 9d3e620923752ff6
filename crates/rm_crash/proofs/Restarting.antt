-- Restart's undo, record by record: how far it has come at any moment.
use Rattle.std.specs.Prelude.{◌≡◌, ℕ, ◌<◌, List, [], ◌∷◌, ◌++◌, ◌⊎◌}
use Rattle.rm_types.specs.declared.formats.Format.{Format}
use Rattle.rm_history.specs.Acts.{Act, Change, History, undoes, enters, ends, newest_lsn}
use Rattle.rm_history.specs.Contents.{entry_of}
use Rattle.rm_history.specs.Pending.{all_pending}
use Rattle.rm_history.specs.Losers.{losers_of}
use Rattle.rm_history.specs.Undoing.{category_after, entry_for, undo_for}

-- The entry of a page is set: with the newest of all that is pending undone it would be wrong.
pub record SetsEntry (start : Format) (before : History) (lsn : ℕ) (act : Act) : Type 0 where
  pub last : Change
  pub rest : List Change
  pub newest : all_pending before ≡ last ∷ rest
  pub wrong : entry_of before last.rid.page ≡ category_after start before last → ⊥
  pub act_is : act ≡ enters (entry_for start lsn before last)

-- The newest of all that is pending is undone, after which the entry of its page is right.
pub record UndoesNewest (start : Format) (before : History) (lsn : ℕ) (act : Act) : Type 0 where
  pub last : Change
  pub rest : List Change
  pub newest : all_pending before ≡ last ∷ rest
  pub right : entry_of before last.rid.page ≡ category_after start before last
  pub act_is : act ≡ undoes (undo_for lsn last)

-- Nothing is pending, and the first of the losers ends.
pub record EndsLoser (before : History) (lsn : ℕ) (act : Act) : Type 0 where
  pub txn : ℕ
  pub rest : List ℕ
  pub none : all_pending before ≡ []
  pub losers : losers_of before ≡ txn ∷ rest
  pub act_is : act ≡ ends (record { lsn = lsn; txn = txn })

-- the next record that restart's undo appends to this history
pub record IsStep (start : Format) (before : History) (act : Act) : Type 0 where
  pub lsn : ℕ
  pub above : newest_lsn before < lsn
  pub step : SetsEntry start before lsn act ⊎ (UndoesNewest start before lsn act ⊎ EndsLoser before lsn act)

-- each of these records is, after those before it
abbrev pub AreSteps : Format → History → History → Type 0
AreSteps start first [] = Unit {0}
AreSteps start first (act ∷ more) = AreSteps start first more × IsStep start (more ++ first) act

-- The history at a moment of a restart that found the first one.
pub record IsRestarting (start : Format) (first history : History) : Type 0 where
  pub more : History
  pub is : history ≡ more ++ first
  pub steps : AreSteps start first more
