-- The pending changes of each session's transaction, without rows.
use Rattle.std.specs.Prelude.{◌≡◌, ℕ, List, [], ◌∷◌, Option, Some, None, slice_index_or}
use Rattle.rm_model.specs.Pages.{row_length}
use Rattle.rm_history.specs.Acts.{Change}
use Rattle.rm_desk.specs.declared.stacks.PendingChange.{PendingChange}

-- the changes, the newest first, and how many more there is room for
pub record StackValue : Type 0 where
  pub changes : List PendingChange
  pub room : ℕ

abbrev pub first_of : List PendingChange → Option PendingChange
first_of [] = None
first_of (newest ∷ before) = Some newest

abbrev pub rest_of : List PendingChange → List PendingChange
rest_of [] = []
rest_of (newest ∷ before) = before

abbrev pub top_of : List PendingChange → ℕ
top_of [] = 0
top_of (newest ∷ before) = newest.lsn.0

abbrev pub stack_at : List StackValue → ℕ → StackValue
stack_at stacks k = slice_index_or stacks k (record { changes = []; room = 0 })

-- the session has these changes from now on, and all others what they had
pub record SetsStack (old new : List StackValue) (k : ℕ) (changes : List PendingChange) : Type 0 where
  pub here : (stack_at new k).changes ≡ changes
  pub others : (j : ℕ) → (j ≡ k → ⊥) → (stack_at new j).changes ≡ (stack_at old j).changes

-- a change as it is kept, and the newest one of a list
abbrev pub noted_of : Change → PendingChange
noted_of c = record { lsn = record { 0 = c.lsn }; rid = c.rid; need = c.need; before = row_length c.before }

abbrev pub newest_in : List Change → Option PendingChange
newest_in [] = None
newest_in (last ∷ rest) = Some (noted_of last)

-- the LSN of the change below the newest, 0 for none
abbrev pub under_in : List Change → ℕ
under_in [] = 0
under_in (last ∷ rest) = last.under
