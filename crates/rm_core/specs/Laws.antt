-- What holds of each run of the machine.
use Rattle.std.specs.Prelude.{◌≡◌, ℕ, ◌+◌, ◌≤◌, [], ◌∷◌, ◌++◌}
use Rattle.rm_core.specs.Below.{Rid, BATCH_HEADER, Change, History, undoes, rows_of_log, IsLast, Fits, undo_bytes, undo_for}
use Rattle.rm_core.specs.Durable.{IsDurable}
use Rattle.rm_core.specs.Kept.{IsOver, Kept}
use Rattle.rm_core.specs.Logging.{TellsLog}
use Rattle.rm_core.specs.Moves.{Move, Moves}
use Rattle.rm_core.specs.Object.{Allowed}
use Rattle.rm_core.specs.Orders.{ops_of, order_of, rows_after, AreSerial, IsAmong, IsAcknowledged, commits_in}
use Rattle.rm_core.specs.Room.{HasRoom}
use Rattle.rm_core.specs.Runs.{Machine, IsRun, moved}
use Rattle.rm_core.specs.Sizes.{end_of}
use Rattle.rm_core.specs.State.{State, seat_at}

-- a machine that makes a move is a run again
abbrev pub MovesRun : Type 0
MovesRun = (m : Machine) (move : Move) (new : State) → IsRun m → Moves m.opening.setting m.state move new → IsRun (moved m move new)

-- The history is legal, locks and latches are apart, and what else is known of each session.
abbrev pub RunsAreKept : Type 0
RunsAreKept = (m : Machine) → IsRun m → Kept m.opening.setting.format m.state

-- What the transactions are told is what one user alone may be told, one transaction after the other.
pub record IsSerial (m : Machine) : Type 0 where
  -- the committed ones, in the order of their commits, from the rows at the opening
  pub committed : AreSerial m.opening.setting.pages (rows_of_log m.opening.history) m.trace
  -- an unfinished one, from the rows that are committed now
  pub unfinished : (k : ℕ) → ((seat_at m.state.seats k).txn ≡ 0 → ⊥) → (IsOver (seat_at m.state.seats k).stage → ⊥)
      → Allowed m.opening.setting.pages (rows_of_log m.state.history) (ops_of m.trace (seat_at m.state.seats k).txn)
  -- the rows of each prefix of the log that has the opened one are those of its first commits
  pub prefixes : (newer more : History) → m.state.history ≡ newer ++ (more ++ m.opening.history) → (rid : Rid)
      → rows_of_log (more ++ m.opening.history) rid ≡ rows_after (rows_of_log m.opening.history) m.trace (commits_in more) rid

abbrev pub RunsAreSerial : Type 0
RunsAreSerial = (m : Machine) → IsRun m → IsSerial m

-- The records past the opened log are those that the events tell.
abbrev pub TracesTellLogs : Type 0
TracesTellLogs = (m : Machine) → IsRun m → TellsLog m.opening.setting.format m.opening.history m.trace m.state.history

-- A transaction that was told that it is committed is in the order of commits, and its commit record is durable.
pub record AcknowledgedIsDurable : Type 0 where
  pub ordered : (m : Machine) (txn : ℕ) → IsRun m → IsAcknowledged m.trace txn → IsAmong (order_of m.trace) txn
  pub durable : (m : Machine) (txn : ℕ) → IsRun m → IsAcknowledged m.trace txn → IsDurable m.state.history m.trace txn

-- What is kept for settling, undo and ends fits after the log, so that they are never refused; and so does restart's undo of each prefix.
pub record RoomIsKept : Type 0 where
  pub room : (m : Machine) → IsRun m → HasRoom m.opening.setting.limit m.state
  pub restart : (m : Machine) (newer more : History) → IsRun m → m.state.history ≡ newer ++ (more ++ m.opening.history) → (more ≡ [] → ⊥)
      → end_of (more ++ m.opening.history) + (BATCH_HEADER + undo_bytes m.opening.setting.format (more ++ m.opening.history)) ≤ m.opening.setting.limit

-- No undo lacks space in its row's own page: with the compensation of a transaction's last pending change each page fits.
abbrev pub UndoHasSpace : Type 0
UndoHasSpace = (m : Machine) (txn lsn : ℕ) (last : Change) → IsRun m → IsLast m.state.history txn last → Fits (undoes (undo_for lsn last) ∷ m.state.history)
