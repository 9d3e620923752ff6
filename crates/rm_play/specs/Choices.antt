-- Which moves a session may make for an operation: there is one in every state, and it is one but for its free choices.
use Rattle.std.specs.Prelude.{◌≡◌, ℕ, ◌+◌}
use Rattle.rm_core.specs.Below.{Op}
use Rattle.rm_core.specs.Names.{after, May, IsSeated, Setting, again, log_full, spent, IsBarredBy, IsSpent, Lacks, Move, turns, answered, altering}
use Rattle.rm_core.specs.Names.{HasRoomFor, Machine, IsRun, IsNext, Stage, idle, State, seat_at, Turn, skip, unname, refuse, begin, scan, scan_last, insert}
use Rattle.rm_core.specs.Names.{lock, lock_alone, wait, die, alter, settle, commit, force, abort, prepare, compensate, end, save, no_target, target}
use Rattle.rm_events.specs.declared.operations.Op.TheVariants as ops

-- the operation that an idle session's turn takes
abbrev pub Takes : Turn → Op → Type 0
Takes (skip other) op = other ≡ op
Takes unname op = op ≡ ops.Unbound
Takes (refuse other rid) op = other ≡ op
Takes (begin txn) op = op ≡ ops.Begin
Takes (scan row from to found) op = op ≡ ops.Insert row
Takes (scan_last row from) op = op ≡ ops.Insert row
Takes (lock rid) op = op ≡ ops.Read rid
Takes (lock_alone rid slot) op = op ≡ altering rid slot
Takes (wait other rid alone holder) op = other ≡ op
Takes (die other rid alone holder) op = other ≡ op
Takes (commit lsn) op = op ≡ ops.Commit
Takes abort op = op ≡ ops.Abort
Takes (save number) op = op ≡ ops.Save number
Takes (no_target number) op = op ≡ ops.Back number
Takes (target number lsn) op = op ≡ ops.Back number
Takes turn op = Unit {0}

-- an operation under way goes on whatever operation is handed in
abbrev pub TakesAt : Stage → Turn → Op → Type 0
TakesAt idle turn op = Takes turn op
TakesAt stage turn op = Unit {0}

-- the session may make the turn for the operation, but for room in the log
pub record MayTake (m : Setting) (s : State) (k : ℕ) (op : Op) (turn : Turn) : Type 0 where
  pub takes : TakesAt (seat_at s.seats k).stage turn op
  pub seated : IsSeated (seat_at s.seats k) turn
  pub may : May m.format m.pages s k (seat_at s.seats k) turn

-- the move is the session's for the operation: a turn that has room, or an answer without a turn
abbrev pub IsMoveFor : Setting → State → ℕ → Op → Move → Type 0
IsMoveFor m s k op (turns j turn) = (j ≡ k) × MayTake m s k op turn × HasRoomFor m.limit s turn (after m.format s k (seat_at s.seats k) turn)
IsMoveFor m s k op (answered j (again by)) = (j ≡ k) × IsBarredBy s k by
IsMoveFor m s k op (answered j (log_full at)) =
    (j ≡ k) × ((turn : Turn) × MayTake m s k op turn × IsNext s.history at × Lacks m.limit at turn (after m.format s k (seat_at s.seats k) turn))
IsMoveFor m s k op (answered j (spent last)) = (j ≡ k) × ((seat_at s.seats k).stage ≡ idle) × (op ≡ ops.Begin) × IsSpent s k × (last + 1 ≡ s.next)
IsMoveFor m s k op other = ⊥

-- a turn without its free choices: the LSN of its record, the durable offset
abbrev pub erased : Turn → Turn
erased (insert row rid lsn) = insert row rid 0
erased (alter rid slot lsn) = alter rid slot 0
erased (settle outcome page lsn) = settle outcome page 0
erased (commit lsn) = commit 0
erased (force durable) = force 0
erased (prepare aim last lsn) = prepare aim last 0
erased (compensate aim last lsn) = compensate aim last 0
erased (end outcome lsn) = end outcome 0
erased turn = turn

-- the turn asks for room in the log
abbrev pub AsksRoom : Turn → Type 0
AsksRoom (begin txn) = Unit {0}
AsksRoom (insert row rid lsn) = Unit {0}
AsksRoom (alter rid slot lsn) = Unit {0}
AsksRoom turn = ⊥

-- two moves are one but for their free choices; the offset decides whether a turn has room in the log
abbrev pub IsAlike : Move → Move → Type 0
IsAlike (turns j turn) (turns k other) = (j ≡ k) × (erased turn ≡ erased other)
IsAlike (turns j turn) (answered k (log_full at)) = (j ≡ k) × AsksRoom turn
IsAlike (answered j (log_full at)) (turns k turn) = (j ≡ k) × AsksRoom turn
IsAlike (answered j (log_full at)) (answered k (log_full other)) = j ≡ k
IsAlike (answered j (again by)) (answered k (again other)) = (j ≡ k) × (by ≡ other)
IsAlike (answered j (spent last)) (answered k (spent other)) = (j ≡ k) × (last ≡ other)
IsAlike move other = ⊥

-- A session's move for an operation is one but for its free choices.
abbrev pub MovesAreOne : Type 0
MovesAreOne = (m : Machine) (k : ℕ) (op : Op) (move other : Move) → IsRun m → IsMoveFor m.opening.setting m.state k op move
    → IsMoveFor m.opening.setting m.state k op other → IsAlike move other
