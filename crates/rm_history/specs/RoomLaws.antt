-- What holds of all needs, and of what fits.
use Rattle.std.specs.Prelude.{◌≡◌, ℕ, ◌+◌, ◌-◌, List, [], ◌∷◌, length, ◌↔◌}
use Rattle.rm_types.specs.declared.formats.Format.{Format}
use Rattle.rm_types.specs.declared.slots.Slot.TheVariants.{Vacant, Row}
use Rattle.rm_model.specs.Pages.{row_length, slot_at}
use Rattle.rm_history.specs.Acts.{Change, History, changes}
use Rattle.rm_history.specs.Contents.{page_of}
use Rattle.rm_history.specs.Pending.{pending_of}
use Rattle.rm_history.specs.Transactions.{IsFinished}
use Rattle.rm_history.specs.Needs.{on_page, need_for, need_of, Fits}
use Rattle.rm_history.specs.Rules.{IsInOrder}
use Rattle.rm_history.specs.Room.{RowFits, GrowthFits}
use Rattle.rm_history.specs.Undoing.{Undone}

-- each change has what its transaction needed on the page before it
abbrev pub NeedsAreLogged : List Change → Type 0
NeedsAreLogged [] = Unit {0}
NeedsAreLogged (newest ∷ before) = (newest.need ≡ need_for (on_page newest.rid.page before)) × NeedsAreLogged before

-- A need goes on by what a change gives up and takes, and back after its undo; a finished transaction needs nothing.
pub record NeedsGoOn : Type 0 where
  pub changed : (before : History) (c : Change)
      → need_of (changes c ∷ before) c.txn c.rid.page ≡ (need_of before c.txn c.rid.page + row_length c.before) - row_length c.after
  pub logged : (history : History) → IsInOrder history → (txn : ℕ) → NeedsAreLogged (pending_of history txn)
  pub undone : (start : Format) (before new : History) (txn : ℕ) (last : Change) (rest : List Change)
      → IsInOrder before → pending_of before txn ≡ last ∷ rest → Undone start before last new → need_of new txn last.rid.page ≡ last.need
  pub finished : (history : History) → IsInOrder history → (txn page : ℕ) → IsFinished history txn → need_of history txn page ≡ 0

-- What fits is what leaves each page room: a row in a vacant slot, and a row in place of another. A delete always does.
pub record FittingIsRoom : Type 0 where
  pub row : (before : History) (c : Change) (row : List ℕ)
      → Fits before → slot_at (page_of before c.rid.page) c.rid.slot ≡ c.before → c.before ≡ Vacant → c.after ≡ Row row
      → RowFits before c.txn c.rid.page c.rid.slot (length row) ↔ Fits (changes c ∷ before)
  pub growth : (before : History) (c : Change) (old new : List ℕ)
      → Fits before → slot_at (page_of before c.rid.page) c.rid.slot ≡ c.before → c.before ≡ Row old → c.after ≡ Row new
      → GrowthFits before c.txn c.rid.page (length new - length old) ↔ Fits (changes c ∷ before)
  pub delete : (before : History) (c : Change) (old : List ℕ)
      → Fits before → slot_at (page_of before c.rid.page) c.rid.slot ≡ c.before → c.before ≡ Row old → c.after ≡ Vacant
      → Fits (changes c ∷ before)
