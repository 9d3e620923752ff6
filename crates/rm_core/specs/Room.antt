-- Room in the log: what is kept for settling, undo and ends.
use Rattle.std.specs.Prelude.{ℕ, ◌+◌, ◌≤◌, ◌==◌, if◌then◌else◌, List, [], ◌∷◌, length}
use Rattle.rm_core.specs.Below.{row_length, sum_below, Change, History, pending_of}
use Rattle.rm_core.specs.Sizes.{end_of, IsNext}
use Rattle.rm_core.specs.State.{Stage, settles, forces, finishes, compensates, Seat, State, seat_at}
use Rattle.rm_core.specs.Turns.{Turn, begin, insert, alter}

-- what is kept for an unfinished transaction, and for each of its pending changes beside the row that the slot held
abbrev pub TXN_BYTES : ℕ
TXN_BYTES = 64

abbrev pub CHANGE_BYTES : ℕ
CHANGE_BYTES = 64

-- what a change asks for beside its record
abbrev pub CHANGE_COST : ℕ
CHANGE_COST = 32

-- what is kept for the undo of pending changes
abbrev pub bytes_for : List Change → ℕ
bytes_for [] = 0
bytes_for (newest ∷ before) = CHANGE_BYTES + row_length newest.before + bytes_for before

-- what an unfinished transaction owes at a stage; what of that it may still log
abbrev pub owes_at : Stage → ℕ → ℕ
owes_at forces bytes = 0
owes_at finishes bytes = 0
owes_at other bytes = TXN_BYTES + bytes

abbrev pub claims_at : Stage → ℕ → ℕ
claims_at (settles outcome page) bytes = 64 + bytes
claims_at (compensates aim page) bytes = 34 + bytes
claims_at forces bytes = 0
claims_at finishes bytes = 0
claims_at other bytes = 49 + bytes

abbrev pub owed_by : History → Seat → ℕ
owed_by history seat = if seat.txn == 0 then 0 else owes_at seat.stage (bytes_for (pending_of history seat.txn))

abbrev pub claim_of : History → Seat → ℕ
claim_of history seat = if seat.txn == 0 then 0 else claims_at seat.stage (bytes_for (pending_of history seat.txn))

abbrev pub owed : State → ℕ
owed s = sum_below (λ k. owed_by s.history (seat_at s.seats k)) (length s.seats)

abbrev pub claims : State → ℕ
claims s = sum_below (λ k. claim_of s.history (seat_at s.seats k)) (length s.seats)

-- The rule of log room: the end of the log, what the turn costs beside its record, and what is owed then, are within the limit.
-- A begin asks it of the offset that the next record would have; a change's record has that offset.
abbrev pub HasRoomFor : ℕ → State → Turn → State → Type 0
HasRoomFor limit old (begin txn) new = (at : ℕ) × IsNext old.history at × (at + owed new ≤ limit)
HasRoomFor limit old (insert row rid lsn) new = end_of new.history + CHANGE_COST + owed new ≤ limit
HasRoomFor limit old (alter rid slot lsn) new = end_of new.history + CHANGE_COST + owed new ≤ limit
HasRoomFor limit old other new = Unit {0}

-- the end of the log and all claims are within the limit
abbrev pub HasRoom : ℕ → State → Type 0
HasRoom limit s = end_of s.history + claims s ≤ limit
