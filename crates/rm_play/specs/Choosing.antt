-- The move that a session makes for an operation, as a function of its one free choice: the offset at which the next record may stand, which
-- is the LSN of its record, or how far the log is durable.
use Rattle.std.specs.Option.{unwrap_or}
use Rattle.std.specs.Prelude.{◌<◌, ℕ, zero, suc, ◌+◌, ◌-◌, ◌*◌, ◌^◌, ◌==◌, ◌&&◌, ◌||◌, not, nat_lt, nat_le, if◌then◌else◌, Bool, true, false, List, [], ◌∷◌}
use Rattle.std.specs.Prelude.{length, max, Option, Some, None, is_some}
use Rattle.rm_core.specs.Below.{Format, Rid, MAX_SLOT, Slot, CAPACITY, category_bytes, used, slot_at}
use Rattle.rm_core.specs.Below.{category_of, is_same_place, Change, History, page_of, entry_of, need_of, pending_of, others_need, unreserved, growth_for}
use Rattle.rm_core.specs.Below.{category_after, Op}
use Rattle.rm_core.specs.Names.{after, Setting, again, log_full, spent, closed, Move, turns, answered, Moves, CHANGE_COST, owed, part_end, Machine, IsRun}
use Rattle.rm_core.specs.Names.{end_of, IsNext, Savepoint, value_at, Aim, undoes_all, returns, target_of, Stage, idle, seeks, wants, tries, reads, fetches}
use Rattle.rm_core.specs.Names.{alters, sets, settles, forces, finishes, rolls, prepares, compensates, Seat, Grant, State, seat_at, Turn, skip, unname, refuse}
use Rattle.rm_core.specs.Names.{begin, scan, scan_last, latch, try, try_last, insert, lock, lock_alone, wait, die, fetch, miss, lack, alter, settled, settle}
use Rattle.rm_core.specs.Names.{commit, force, finish, abort, prepared, prepare, compensate, save, no_target, target, back, end}
use Rattle.rm_play.specs.Choices.{IsMoveFor}
use Rattle.rm_types.specs.declared.slots.Slot.TheVariants as slot
use Rattle.rm_events.specs.declared.operations.Op.TheVariants as ops

-- ---- what is looked for

-- the first of n numbers from one on that the test takes
abbrev pub first_from : (ℕ → Bool) → ℕ → ℕ → Option ℕ
first_from test from zero = None
first_from test from (suc n) = if test from then Some from else first_from test (suc from) n

-- the first page of a part of the file that its entry does not exclude
abbrev pub first_open : Format → History → ℕ → ℕ → ℕ → Option ℕ
first_open format history len from stop = first_from (λ page. nat_le (category_bytes format * entry_of history page + len) CAPACITY) from (stop - from)

-- the other's locks refuse one on the row id, exclusive or not
abbrev pub blocks_it : List Grant → ℕ → Rid → Bool → Bool
blocks_it [] other rid alone = false
blocks_it (first ∷ grants) other rid alone =
    ((alone || first.alone) && ((first.txn == other) && is_same_place first.rid rid)) || blocks_it grants other rid alone

-- past the transactions and the slots of all locks
abbrev pub past_locks : List Grant → ℕ
past_locks [] = 0
past_locks (first ∷ grants) = max (max first.txn first.rid.slot + 1) (past_locks grants)

-- the least other transaction whose locks do
abbrev pub blocker : List Grant → ℕ → Rid → Bool → Option ℕ
blocker grants txn rid alone = first_from (λ other. not (other == txn) && blocks_it grants other rid alone) 0 (past_locks grants)

abbrev pub is_vacant : Slot → Bool
is_vacant slot.Vacant = true
is_vacant (slot.Row row) = false

-- the slot of the page is vacant, and not held by another's lock
abbrev pub is_free : State → Seat → ℕ → ℕ → Bool
is_free s seat page number =
    is_vacant (slot_at (page_of s.history page) number) && not (is_some (blocker s.grants seat.txn (record { page = page; slot = number }) true))

-- the first such slot: there is one, past the directory and past the slots of all locks at the latest
abbrev pub slot_for : State → Seat → ℕ → ℕ
slot_for s seat page = unwrap_or (first_from (is_free s seat page) 0 (max (length (page_of s.history page)) (past_locks s.grants) + 1)) 0

-- the stage has the page latched, alone and shared; the stage takes a page shared
abbrev pub latches_it : Stage → ℕ → Bool
latches_it (tries row on) page = on == page
latches_it (sets rid new) page = rid.page == page
latches_it (settles outcome on) page = on == page
latches_it (prepares aim on) page = on == page
latches_it (compensates aim on) page = on == page
latches_it other page = false

abbrev pub looks_at : Stage → ℕ → Bool
looks_at (fetches rid) page = rid.page == page
looks_at other page = false

abbrev pub is_reading : Stage → Bool
is_reading (reads rid) = true
is_reading other = false

-- the first session whose latch refuses the session's
abbrev pub bars_it : State → ℕ → ℕ → ℕ → Bool
bars_it s k page j =
    not (j == k) && (latches_it (seat_at s.seats j).stage page || (not (is_reading (seat_at s.seats k).stage) && looks_at (seat_at s.seats j).stage page))

abbrev pub first_barring : State → ℕ → ℕ → Option ℕ
first_barring s k page = first_from (bars_it s k page) 0 (length s.seats)

abbrev pub row_fits : State → Seat → ℕ → ℕ → ℕ → Bool
row_fits s seat page number len =
    nat_le (used (page_of s.history page) + growth_for (length (page_of s.history page)) number
    + others_need s.history seat.txn page + max len (need_of s.history seat.txn page)) CAPACITY

abbrev pub growth_fits : State → Seat → ℕ → ℕ → Bool
growth_fits s seat page growth =
    nat_le (used (page_of s.history page) + others_need s.history seat.txn page + max growth (need_of s.history seat.txn page)) CAPACITY

abbrev pub has_number : {A : Type 0} → List (Savepoint A) → ℕ → Bool
has_number [] number = false
has_number (first ∷ points) number = (first.number == number) || has_number points number

-- ---- the moves

-- a change, where the log has room for it at this LSN
abbrev pub if_room : Setting → State → ℕ → ℕ → Turn → Move
if_room m s k lsn turn =
    if nat_le (end_of (after m.format s k (seat_at s.seats k) turn).history + CHANGE_COST + owed (after m.format s k (seat_at s.seats k) turn)) m.limit
    then turns k turn else answered k (log_full lsn)

abbrev pub if_room_to_begin : Setting → State → ℕ → ℕ → Move
if_room_to_begin m s k lsn =
    if nat_le (lsn + owed (after m.format s k (seat_at s.seats k) (begin s.next))) m.limit then turns k (begin s.next) else answered k (log_full lsn)

abbrev pub beginning : Setting → State → ℕ → ℕ → Move
beginning m s k lsn = if s.next == 2 ^ 32 then answered k (spent (2 ^ 32 - 1)) else if_room_to_begin m s k lsn

abbrev pub found_at : ℕ → ℕ → List ℕ → ℕ → Option ℕ → Turn
found_at pages part row from (Some page) = scan row from page true
found_at pages part row from None = if part == pages then scan_last row from else scan row from part false

abbrev pub scanning : Setting → State → List ℕ → ℕ → Turn
scanning m s row from = found_at m.pages (part_end m.pages from) row from (first_open m.format s.history (length row) from (part_end m.pages from))

abbrev pub latching : State → ℕ → ℕ → Option ℕ → Move
latching s k page None = turns k (latch page)
latching s k page (Some by) = answered k (again by)

abbrev pub latching_at : State → ℕ → ℕ → Move
latching_at s k page = latching s k page (first_barring s k page)

abbrev pub trying : Setting → State → ℕ → ℕ → List ℕ → ℕ → Move
trying m s k lsn row page =
    if row_fits s (seat_at s.seats k) page (slot_for s (seat_at s.seats k) page) (length row)
    then if_room m s k lsn (insert row (record { page = page; slot = slot_for s (seat_at s.seats k) page }) lsn)
    else turns k (if page + 1 == m.pages then try_last row page (slot_for s (seat_at s.seats k) page) else try row page (slot_for s (seat_at s.seats k) page))

abbrev pub lock_of : Op → Rid → Turn
lock_of (ops.Update rid row) place = lock_alone rid (slot.Row row)
lock_of (ops.Delete rid) place = lock_alone rid slot.Vacant
lock_of op place = lock place

abbrev pub locking_against : State → Seat → Op → Rid → Bool → Option ℕ → Turn
locking_against s seat op rid alone None = lock_of op rid
locking_against s seat op rid alone (Some holder) = if nat_lt seat.txn holder then wait op rid alone holder else die op rid alone holder

abbrev pub locking : Setting → State → Seat → Op → Rid → Bool → Turn
locking m s seat op rid alone =
    if nat_lt rid.page m.pages && nat_le rid.slot MAX_SLOT then locking_against s seat op rid alone (blocker s.grants seat.txn rid alone) else refuse op rid

abbrev pub altering_to : Setting → State → ℕ → ℕ → Rid → Slot → Slot → Move
altering_to m s k lsn rid slot.Vacant new = turns k (miss rid new)
altering_to m s k lsn rid (slot.Row old) slot.Vacant = if_room m s k lsn (alter rid slot.Vacant lsn)
altering_to m s k lsn rid (slot.Row old) (slot.Row new) =
    if growth_fits s (seat_at s.seats k) rid.page (length new - length old) then if_room m s k lsn (alter rid (slot.Row new) lsn)
    else turns k (lack rid new (unreserved s.history (seat_at s.seats k).txn rid.page))

abbrev pub returning : Seat → ℕ → Turn
returning seat number = if has_number seat.saves number then target number (value_at 0 seat.saves number) else no_target number

-- the target of a rollback is reached
abbrev pub reaching : Aim → ℕ → Turn
reaching (undoes_all outcome) lsn = end outcome lsn
reaching (returns number at) lsn = back number at

abbrev pub rolling : State → ℕ → ℕ → Aim → List Change → Move
rolling s k lsn aim [] = turns k (reaching aim lsn)
rolling s k lsn aim (last ∷ rest) = if nat_lt (target_of aim) last.lsn then latching_at s k last.rid.page else turns k (reaching aim lsn)

abbrev pub preparing : Setting → State → ℕ → Aim → List Change → Turn
preparing m s lsn aim [] = reaching aim lsn
preparing m s lsn aim (last ∷ rest) =
    if entry_of s.history last.rid.page == category_after m.format s.history last then prepared aim last else prepare aim last lsn

abbrev pub compensating : ℕ → Aim → List Change → Turn
compensating lsn aim [] = reaching aim lsn
compensating lsn aim (last ∷ rest) = compensate aim last lsn

-- outside a transaction
abbrev pub outside : Setting → State → ℕ → ℕ → Op → Move
outside m s k lsn ops.Unbound = turns k unname
outside m s k lsn ops.Begin = beginning m s k lsn
outside m s k lsn op = turns k (skip op)

-- in one, of an idle session
abbrev pub asking : Setting → State → ℕ → ℕ → Op → Turn
asking m s k lsn ops.Unbound = unname
asking m s k lsn ops.Begin = skip ops.Begin
asking m s k lsn (ops.Insert row) = scanning m s row 0
asking m s k lsn (ops.Read rid) = locking m s (seat_at s.seats k) (ops.Read rid) rid false
asking m s k lsn (ops.Update rid row) = locking m s (seat_at s.seats k) (ops.Update rid row) rid true
asking m s k lsn (ops.Delete rid) = locking m s (seat_at s.seats k) (ops.Delete rid) rid true
asking m s k lsn (ops.Save number) = save number
asking m s k lsn (ops.Back number) = returning (seat_at s.seats k) number
asking m s k lsn ops.Commit = commit lsn
asking m s k lsn ops.Abort = abort

-- at a stage
abbrev pub chosen_at : Setting → State → ℕ → ℕ → Op → Stage → Move
chosen_at m s k lsn op idle = turns k (asking m s k lsn op)
chosen_at m s k lsn op (seeks row from) = turns k (scanning m s row from)
chosen_at m s k lsn op (wants row on) = latching_at s k on
chosen_at m s k lsn op (tries row page) = trying m s k lsn row page
chosen_at m s k lsn op (reads rid) = latching_at s k rid.page
chosen_at m s k lsn op (fetches rid) = turns k (fetch rid (slot_at (page_of s.history rid.page) rid.slot))
chosen_at m s k lsn op (alters rid new) = latching_at s k rid.page
chosen_at m s k lsn op (sets rid new) = altering_to m s k lsn rid (slot_at (page_of s.history rid.page) rid.slot) new
chosen_at m s k lsn op (settles outcome page) =
    turns k (if entry_of s.history page == category_of m.format (page_of s.history page) then settled outcome page else settle outcome page lsn)
chosen_at m s k lsn op forces = turns k (force lsn)
chosen_at m s k lsn op finishes = turns k finish
chosen_at m s k lsn op (rolls aim) = rolling s k lsn aim (pending_of s.history (seat_at s.seats k).txn)
chosen_at m s k lsn op (prepares aim page) = turns k (preparing m s lsn aim (pending_of s.history (seat_at s.seats k).txn))
chosen_at m s k lsn op (compensates aim page) = turns k (compensating lsn aim (pending_of s.history (seat_at s.seats k).txn))

abbrev pub chosen : Setting → State → ℕ → ℕ → Op → Move
chosen m s k lsn op = if (seat_at s.seats k).txn == 0 then outside m s k lsn op else chosen_at m s k lsn op (seat_at s.seats k).stage

-- what a session's move leaves
abbrev pub state_after : Setting → State → Move → State
state_after m s (turns k turn) = after m.format s k (seat_at s.seats k) turn
state_after m s (answered k (log_full at)) = closed s k
state_after m s other = s

-- It is the session's move for the operation, at each offset at which the next record may stand.
abbrev pub ChosenIsMove : Type 0
ChosenIsMove = (m : Machine) (k lsn : ℕ) (op : Op) → IsRun m → k < length m.state.seats → IsNext m.state.history lsn
    → IsMoveFor m.opening.setting m.state k op (chosen m.opening.setting m.state k lsn op)
    × Moves m.opening.setting m.state (chosen m.opening.setting m.state k lsn op)
    (state_after m.opening.setting m.state (chosen m.opening.setting m.state k lsn op))

-- So each session has a move for each operation.
abbrev pub MovesExist : Type 0
MovesExist = (m : Machine) (k : ℕ) (op : Op) → IsRun m → k < length m.state.seats
    → (move : Move) × (new : State) × IsMoveFor m.opening.setting m.state k op move × Moves m.opening.setting m.state move new
