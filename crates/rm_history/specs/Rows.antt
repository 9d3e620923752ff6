-- The committed rows of a history, and the pages that hold them alone.
use Rattle.std.specs.Prelude.{ℕ, if◌then◌else◌, List, [], ◌∷◌, map, length, None}
use Rattle.std.specs.List.{range_with_len}
use Rattle.rm_types.specs.declared.numbers.Rid.{Rid}
use Rattle.rm_types.specs.declared.slots.Slot.{Slot}
use Rattle.rm_model.specs.Pages.{row_of}
use Rattle.rm_model.specs.Object.{Rows, is_same_place}
use Rattle.rm_history.specs.Acts.{Change, History, changes, undoes, enters, commits, ends, marks}
use Rattle.rm_history.specs.Contents.{slot_of, page_of}
use Rattle.rm_history.specs.Pending.{pending_of}

-- the rows with what a slot holds at a row id
abbrev pub with_slot : Rows → Rid → Slot → Rows
with_slot rows rid slot = λ place. if is_same_place place rid then row_of slot else rows place

-- the rows with these changes, of which the newest is made last
abbrev pub applied : Rows → List Change → Rows
applied rows [] = rows
applied rows (newest ∷ before) = with_slot (applied rows before) newest.rid newest.after

-- the committed rows: a commit makes its transaction's pending changes
abbrev pub rows_of_log : History → Rows
rows_of_log [] = λ rid. None
rows_of_log (changes c ∷ before) = rows_of_log before
rows_of_log (undoes u ∷ before) = rows_of_log before
rows_of_log (enters e ∷ before) = rows_of_log before
rows_of_log (commits f ∷ before) = applied (rows_of_log before) (pending_of before f.txn)
rows_of_log (ends f ∷ before) = rows_of_log before
rows_of_log (marks m ∷ before) = rows_of_log before

-- a page that holds nothing but committed rows: it has as many slots as the page, and in each the row that is committed there
abbrev pub settled_of : History → ℕ → List Slot
settled_of history page =
    map (λ number. slot_of (rows_of_log history (record { page = page; slot = number }))) (range_with_len 0 (length (page_of history page)))
