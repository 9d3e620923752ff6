-- The chosen move by what a turn looks at: the operation without its row, the lengths of rows, the newest pending change, a savepoint.
use Rattle.std.specs.Prelude.{◌≡◌, ℕ, ◌-◌, nat_lt, nat_le, ◌&&◌, if◌then◌else◌, Bool, true, false, List, [], ◌∷◌, Option, Some, None}
use Rattle.rm_types.specs.declared.numbers.Lsn.{Lsn}
use Rattle.rm_core.specs.Below.{Rid, MAX_SLOT, unreserved, Op, Reply, Change}
use Rattle.rm_core.specs.Names.{Setting, State, Seat, seat_at, Aim, Stage, Move, turns, Turn, unname, skip, refuse, wait, die, alter, lack, miss, save, target, no_target}
use Rattle.rm_core.specs.Names.{commit, abort}
use Rattle.rm_play.specs.Choosing.{beginning, scanning, locking, latching_at, reaching, returning, growth_fits, if_room}
use Rattle.rm_core.specs.Names.{target_of}
use Rattle.rm_events.specs.declared.operations.Op.TheVariants as ops
use Rattle.rm_events.specs.declared.operations.Reply.TheVariants as replies
use Rattle.rm_events.specs.declared.turns.Turn.TheVariants as answer
use Rattle.rm_ops.specs.declared.stages.Asked.{Asked}
use Rattle.rm_ops.specs.declared.stages.Asked.TheVariants as asks
use Rattle.rm_ops.specs.declared.stages.LastChange.{LastChange}
use Rattle.rm_ops.specs.Views.{View, HasSession, IsActive, seat_of, is_over, turned, granted}
use Rattle.rm_ops.specs.Stages.{row_in, new_slot}
use Rattle.rm_ops.specs.Making.{told_by}

-- the session has a transaction whose commit record is not logged
pub record IsOpen (v : View) (k : ℕ) : Type 0 where
  pub known : HasSession v k
  pub active : IsActive v k
  pub not_over : is_over (seat_of v k).stage ≡ false

-- ---- the operation

-- the length of the row that an operation brings; of the one that an update's slot is to hold
abbrev pub row_len_of : Asked → ℕ
row_len_of (asks.Insert len) = len
row_len_of (asks.Update rid len) = len
row_len_of other = 0

abbrev pub new_len_of : Asked → Option ℕ
new_len_of (asks.Update rid len) = Some len
new_len_of other = None

-- the reply to an update or delete, by the length of the row that the slot holds then
abbrev pub reply_by : Option ℕ → Reply
reply_by None = replies.Deleted
reply_by (Some len) = replies.Updated

-- outside a transaction, and of an idle session in one
abbrev pub outside_by : Setting → State → ℕ → ℕ → Op → Asked → Move
outside_by m s k lsn op asks.Unbound = turns k unname
outside_by m s k lsn op asks.Begin = beginning m s k lsn
outside_by m s k lsn op other = turns k (skip op)

abbrev pub asking_by : Setting → State → ℕ → ℕ → Op → Asked → Turn
asking_by m s k lsn op asks.Unbound = unname
asking_by m s k lsn op asks.Begin = skip op
asking_by m s k lsn op (asks.Insert len) = scanning m s (row_in op) 0
asking_by m s k lsn op (asks.Read rid) = locking m s (seat_at s.seats k) op rid false
asking_by m s k lsn op (asks.Update rid len) = locking m s (seat_at s.seats k) op rid true
asking_by m s k lsn op (asks.Delete rid) = locking m s (seat_at s.seats k) op rid true
asking_by m s k lsn op (asks.Save number) = save number
asking_by m s k lsn op (asks.Back number) = returning (seat_at s.seats k) number
asking_by m s k lsn op asks.Commit = commit lsn
asking_by m s k lsn op asks.Abort = abort

-- ---- slots and pending changes

-- an update or delete, by the lengths of the row that the slot holds and of the one that it is to hold
abbrev pub altering_by : Setting → State → ℕ → ℕ → Rid → Op → Option ℕ → Option ℕ → Move
altering_by m s k lsn rid op None after = turns k (miss rid (new_slot op))
altering_by m s k lsn rid op (Some before) None = if_room m s k lsn (alter rid (new_slot op) lsn)
altering_by m s k lsn rid op (Some before) (Some len) =
    if growth_fits s (seat_at s.seats k) rid.page (len - before) then if_room m s k lsn (alter rid (new_slot op) lsn)
    else turns k (lack rid (row_in op) (unreserved s.history (seat_at s.seats k).txn rid.page))

-- a rollback, by the newest pending change
abbrev pub rolling_by : State → ℕ → ℕ → Aim → Option LastChange → Move
rolling_by s k lsn aim None = turns k (reaching aim lsn)
rolling_by s k lsn aim (Some last) = if nat_lt (target_of aim) last.lsn.0 then latching_at s k last.page else turns k (reaching aim lsn)

-- back to a savepoint, by where it stands
abbrev pub returning_by : ℕ → Option Lsn → Turn
returning_by number None = no_target number
returning_by number (Some at) = target number at.0

-- ---- locks

-- the turn gives the session's transaction a lock, and the session goes to that stage
pub record Grants (v : View) (k : ℕ) (rid : Rid) (alone : Bool) (stage : Stage) (turn : Turn) : Type 0 where
  pub leaves : turned v k turn ≡ granted v k rid alone stage
  pub told_is : told_by turn ≡ answer.Advanced
