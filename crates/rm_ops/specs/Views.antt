-- What turns read and change.
use Rattle.std.specs.Prelude.{◌≡◌, ℕ, ◌+◌, ◌<◌, ◌==◌, nat_le, if◌then◌else◌, Bool, true, false, List, [], ◌∷◌, length, slice_index_or, Option, Some, None}
use Rattle.rm_types.specs.declared.modes.Mode.{Mode}
use Rattle.rm_types.specs.declared.modes.Mode.TheVariants.{Shared, Exclusive}
use Rattle.rm_types.specs.declared.numbers.Lsn.{Lsn}
use Rattle.rm_types.specs.declared.numbers.TxnId.{TxnId}
use Rattle.rm_core.specs.Below.{Format, Rid, Op, Slot, Vacant, Row, slot_at, Change, History, page_of, entry_of, pending_of, category_after}
use Rattle.rm_core.specs.Names.{Setting, State, Seat, seat_at, Savepoint, value_at, Aim, Stage, idle, seeks, wants, tries, reads, fetches, alters, sets, settles, forces}
use Rattle.rm_core.specs.Names.{finishes, rolls, prepares, compensates, Turn, begin, prepare, compensate, IsInside}
use Rattle.rm_core.specs.Names.{after, with_effect, goes_to, staged, with_grant, end_of, CHANGE_COST, owed}
use Rattle.rm_play.specs.Choosing.{has_number}
use Rattle.rm_events.specs.declared.operations.Op.TheVariants as ops
use Rattle.rm_ops.specs.declared.stages.LastChange.{LastChange}

-- the setting and the state of the machine, and the operation that each session has asked for
pub record View : Type 0 where
  pub setting : Setting
  pub state : State
  pub asked : List Op

abbrev pub op_at : View → ℕ → Op
op_at v k = slice_index_or v.asked k ops.Unbound

abbrev pub seat_of : View → ℕ → Seat
seat_of v k = seat_at v.state.seats k

-- the machine has this session
abbrev pub HasSession : View → ℕ → Type 0
HasSession v k = k < length v.state.seats

-- a transaction's number, 0 for none; and of each
abbrev pub number_of : Option TxnId → ℕ
number_of None = 0
number_of (Some txn) = txn.0

abbrev pub number_in : Option TxnId → Option ℕ
number_in None = None
number_in (Some txn) = Some txn.0

-- the session has a transaction
abbrev pub IsActive : View → ℕ → Type 0
IsActive v k = (seat_of v k).txn ≡ 0 → ⊥

-- the transaction's commit record is logged
abbrev pub is_over : Stage → Bool
is_over forces = true
is_over finishes = true
is_over other = false

-- what stands in the stage is of a file of this many pages
abbrev pub IsOfFile : ℕ → Stage → Type 0
IsOfFile pages idle = Unit {0}
IsOfFile pages (seeks row from) = from < pages
IsOfFile pages (wants row page) = page < pages
IsOfFile pages (tries row page) = page < pages
IsOfFile pages (reads rid) = IsInside pages rid
IsOfFile pages (fetches rid) = IsInside pages rid
IsOfFile pages (alters rid new) = IsInside pages rid
IsOfFile pages (sets rid new) = IsInside pages rid
IsOfFile pages (settles outcome page) = page < pages
IsOfFile pages forces = Unit {0}
IsOfFile pages finishes = Unit {0}
IsOfFile pages (rolls aim) = Unit {0}
IsOfFile pages (prepares aim page) = page < pages
IsOfFile pages (compensates aim page) = page < pages

-- the length of the row in a slot
abbrev pub length_in : Slot → Option ℕ
length_in Vacant = None
length_in (Row row) = Some (length row)

-- the slot that a row id names
abbrev pub slot_in : History → Rid → Slot
slot_in history rid = slot_at (page_of history rid.page) rid.slot

-- the newest of a transaction's pending changes
abbrev pub last_in : List Change → Option LastChange
last_in [] = None
last_in (last ∷ rest) = Some (record { lsn = record { 0 = last.lsn }; page = last.rid.page })

abbrev pub pending_at : View → ℕ → List Change
pending_at v k = pending_of v.state.history (seat_of v k).txn

-- its page's entry is what it is to be once the change is undone
abbrev pub is_entry_ready : Format → History → List Change → Bool
is_entry_ready format history [] = true
is_entry_ready format history (last ∷ rest) = entry_of history last.rid.page == category_after format history last

-- where the newest savepoint of a number stands
abbrev pub saved_in : List (Savepoint ℕ) → ℕ → Option Lsn
saved_in saves number = if has_number saves number then Some (record { 0 = value_at 0 saves number }) else None

-- whether a lock in this mode is exclusive
abbrev pub is_alone : Mode → Bool
is_alone Shared = false
is_alone Exclusive = true

-- ---- what turns leave

-- after a turn of the session
abbrev pub turned : View → ℕ → Turn → View
turned v k turn = record v { state = after v.setting.format v.state k (seat_of v k) turn }

-- the log has room for the session's turn, a change
abbrev pub has_room : View → ℕ → Turn → Bool
has_room v k turn = nat_le (end_of (turned v k turn).state.history + CHANGE_COST + owed (turned v k turn).state) v.setting.limit

-- for a begin, at this offset
abbrev pub has_room_to_begin : View → ℕ → ℕ → Bool
has_room_to_begin v k offset = nat_le (offset + owed (turned v k (begin v.state.next)).state) v.setting.limit

-- the session at another stage; with a lock more
abbrev pub stood : View → ℕ → Stage → View
stood v k stage = record v { state = with_effect v.state k (goes_to v.state (staged (seat_of v k) stage)) }

abbrev pub granted : View → ℕ → Rid → Bool → Stage → View
granted v k rid alone stage = record v {
  state = with_effect v.state k (record (goes_to v.state (staged (seat_of v k) stage)) { grants = with_grant v.state (seat_of v k).txn rid alone });
}

-- before the undo of the newest pending change its page's entry is entered; it is undone
abbrev pub prepared : View → ℕ → Aim → ℕ → List Change → View
prepared v k aim lsn [] = v
prepared v k aim lsn (last ∷ rest) = turned v k (prepare aim last lsn)

abbrev pub compensated : View → ℕ → Aim → ℕ → List Change → View
compensated v k aim lsn [] = v
compensated v k aim lsn (last ∷ rest) = turned v k (compensate aim last lsn)
