-- The bytes that a transaction's undo may need on a page.
use Rattle.std.specs.Prelude.{ℕ, ◌+◌, ◌-◌, ◌≤◌, ◌==◌, if◌then◌else◌, List, [], ◌∷◌}
use Rattle.rm_types.specs.declared.slots.TheConstants.{CAPACITY}
use Rattle.rm_model.specs.Pages.{used, row_length}
use Rattle.rm_model.specs.Sums.{sum_below}
use Rattle.rm_history.specs.Acts.{Change, History}
use Rattle.rm_history.specs.Contents.{page_of}
use Rattle.rm_history.specs.Pending.{pending_of}

-- the changes that are on a page
abbrev pub on_page : ℕ → List Change → List Change
on_page page [] = []
on_page page (newest ∷ before) = if newest.rid.page == page then newest ∷ on_page page before else on_page page before

-- What undoing these changes of one page needs at the most, the newest first: each gives back the bytes that it grew by, and takes
-- back those that it shrank by.
abbrev pub need_for : List Change → ℕ
need_for [] = 0
need_for (newest ∷ before) = (need_for before + row_length newest.before) - row_length newest.after

-- what a transaction's undo needs on a page
abbrev pub need_of : History → ℕ → ℕ → ℕ
need_of history txn page = need_for (on_page page (pending_of history txn))

-- A page has room for what it holds and for what all transactions' undo needs there.
abbrev pub FitsOn : History → ℕ → Type 0
FitsOn history page = (n : ℕ) → used (page_of history page) + sum_below (λ txn. need_of history txn page) n ≤ CAPACITY

-- each page has
abbrev pub Fits : History → Type 0
Fits history = (page : ℕ) → FitsOn history page
