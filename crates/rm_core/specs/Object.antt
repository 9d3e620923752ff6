-- The one-thread object: what one user alone of a file may be told, and what the rows and savepoints are then.
use Rattle.std.specs.Prelude.{◌≡◌, ℕ, Bool, List, [], ◌∷◌, None}
use Rattle.rm_core.specs.Below.{Rid, Row, row_of, Rows, with_slot}
use Rattle.rm_core.specs.Locks.{Asks, IsInside}
use Rattle.rm_core.specs.Outcomes.{Outcome, began, inserted, no_space, saw, altered, missed, full, saved, no_save, back_to, committed, aborted, died, skipped}
use Rattle.rm_core.specs.Outcomes.{refused, unbound}
use Rattle.rm_core.specs.State.{Savepoint, dropped, upto, HasNumber, value_at}
use Rattle.rm_events.specs.declared.operations.Op.TheVariants as ops

-- the rows, and the savepoints, the newest first, each with its rows
pub record Single : Type 0 where
  pub rows : Rows
  pub saves : List (Savepoint Rows)

-- an outcome that may come, in a file of `pages` pages
abbrev pub MayDo : ℕ → Single → Outcome → Type 0
MayDo pages single (began txn) = Unit {0}
MayDo pages single (inserted row rid) = single.rows rid ≡ None
MayDo pages single (no_space row) = Unit {0}
MayDo pages single (saw rid slot) = single.rows rid ≡ row_of slot
MayDo pages single (altered rid slot) = single.rows rid ≡ None → ⊥
MayDo pages single (missed rid slot) = single.rows rid ≡ None
MayDo pages single (full rid row room) = single.rows rid ≡ None → ⊥
MayDo pages single (saved number) = Unit {0}
MayDo pages single (no_save number) = HasNumber single.saves number → ⊥
MayDo pages single (back_to number) = HasNumber single.saves number
MayDo pages single committed = Unit {0}
MayDo pages single aborted = ⊥
MayDo pages single (died op holder) = ⊥
MayDo pages single (skipped op) = op ≡ ops.Begin
MayDo pages single (refused op) = (rid : Rid) × (alone : Bool) × Asks op rid alone × (IsInside pages rid → ⊥)
MayDo pages single unbound = Unit {0}

-- what it leaves
abbrev pub does : Single → Outcome → Single
does single (began txn) = record single { saves = [] }
does single (inserted row rid) = record single { rows = with_slot single.rows rid (Row row) }
does single (no_space row) = single
does single (saw rid slot) = single
does single (altered rid slot) = record single { rows = with_slot single.rows rid slot }
does single (missed rid slot) = single
does single (full rid row room) = single
does single (saved number) = record single { saves = (record { number = number; value = single.rows }) ∷ dropped single.saves number }
does single (no_save number) = single
does single (back_to number) = record { rows = value_at single.rows single.saves number; saves = upto single.saves number }
does single committed = single
does single aborted = single
does single (died op holder) = single
does single (skipped op) = single
does single (refused op) = single
does single unbound = single

-- what outcomes leave of these rows, the newest first; and that each of them may come
abbrev pub single_after : Rows → List Outcome → Single
single_after rows [] = record { rows = rows; saves = [] }
single_after rows (outcome ∷ before) = does (single_after rows before) outcome

abbrev pub Allowed : ℕ → Rows → List Outcome → Type 0
Allowed pages rows [] = Unit {0}
Allowed pages rows (outcome ∷ before) = Allowed pages rows before × MayDo pages (single_after rows before) outcome

-- transactions one after the other, the newest first: the rows that they leave, and that each of their outcomes may come
abbrev pub rows_through : Rows → List (List Outcome) → Rows
rows_through rows [] = rows
rows_through rows (newest ∷ before) = (single_after (rows_through rows before) newest).rows

abbrev pub AllAllowed : ℕ → Rows → List (List Outcome) → Type 0
AllAllowed pages rows [] = Unit {0}
AllAllowed pages rows (newest ∷ before) = AllAllowed pages rows before × Allowed pages (rows_through rows before) newest
