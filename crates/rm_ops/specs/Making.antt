-- What a call that makes a move leaves, and what it answers.
use Rattle.std.specs.Prelude.{◌≡◌, ℕ, suc, Option, Some, None, Result, Ok, Err}
use Rattle.rm_types.specs.declared.faults.StoreFault.{StoreFault}
use Rattle.rm_core.specs.Names.{Move, turns, answered, again, log_full, spent, wait, Turn, Outcome, reply_of, outcome_of, IsNext, Machine, IsRun, moved}
use Rattle.rm_events.specs.declared.turns.Turn.{Turn as Answer}
use Rattle.rm_events.specs.declared.turns.Turn.TheVariants as answer
use Rattle.rm_play.specs.Choosing.{chosen, state_after}
use Rattle.rm_ops.specs.Views.{View, HasSession, op_at}

-- the answer to a finished operation, and to one that goes on
abbrev pub told : Option Outcome → Answer
told None = answer.Advanced
told (Some outcome) = answer.Done (reply_of outcome)

abbrev pub told_by : Turn → Answer
told_by (wait op rid alone holder) = answer.Waits (record { 0 = holder })
told_by turn = told (outcome_of turn)

-- The answer to a session's move. A session's number is one more than its place.
abbrev pub answer_of : Move → Answer
answer_of (turns k turn) = told_by turn
answer_of (answered k (again by)) = answer.Again (suc by)
answer_of (answered k (log_full end)) = answer.LogFull end
answer_of (answered k (spent last)) = answer.TxnsSpent (record { 0 = last })
answer_of other = answer.Advanced

-- what the move leaves
abbrev pub moved_by : View → Move → View
moved_by v move = record v { state = state_after v.setting v.state move }

abbrev pub Does : View → Move → Result Answer StoreFault → View → Type 0
Does v move (Ok told_it) new = (new ≡ moved_by v move) × (told_it ≡ answer_of move)
Does v move (Err fault) new = new ≡ v

-- The call makes the move, and gives its answer; or it fails, and all is as it was.
pub record Makes (v : View) (move : Move) (result : Result Answer StoreFault) (new : View) : Type 0 where
  pub does : Does v move result new

-- It makes the session's move for its operation, by an offset at which the next record may stand.
pub record MakesChosen (v : View) (k : ℕ) (result : Result Answer StoreFault) (new : View) : Type 0 where
  pub lsn : ℕ
  pub next : IsNext v.state.history lsn
  pub makes : Makes v (chosen v.setting v.state k lsn (op_at v k)) result new

-- A run in which the session makes the turn is a run, and stands where the tables do; the answer is the move's.
abbrev pub TurnsRun : Type 0
TurnsRun = (m : Machine) (v new : View) (k : ℕ) (told_it : Answer) → IsRun m → m.opening.setting ≡ v.setting → m.state ≡ v.state → HasSession v k
    → MakesChosen v k (Ok told_it) new
    → (lsn : ℕ) × IsRun (moved m (chosen v.setting v.state k lsn (op_at v k)) new.state) × (told_it ≡ answer_of (chosen v.setting v.state k lsn (op_at v k)))
