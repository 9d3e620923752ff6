-- The run of a script: each actor of a list makes one turn, a session for its next line.
use Rattle.std.specs.Prelude.{◌≡◌, ℕ, zero, suc, ◌+◌, Bool, true, false, List, [], ◌∷◌, ◌++◌, length, replicate, slice_index_or, slice_set, Option, Some}
use Rattle.std.specs.Prelude.{None}
use Rattle.rm_core.specs.Below.{Rid, Actor, Session, Flush, Line, Word, Op, op_of, names_after}
use Rattle.rm_core.specs.Names.{outcome_of, log_full, spent, Move, turns, answered, rests, Moves, Outcome, reply_of, Opening, Machine, started, moved}
use Rattle.rm_core.specs.Names.{State, seat_at}
use Rattle.rm_play.specs.Choices.{IsMoveFor}
use Rattle.rm_events.specs.declared.events.Seen.TheVariants as sees
use Rattle.rm_events.specs.declared.lines.Word.TheVariants as word
use Rattle.rm_events.specs.declared.operations.Op.TheVariants as ops

-- ---- the words

-- one round: so many sessions in order, from one on
abbrev pub round_from : ℕ → ℕ → List Actor
round_from first zero = []
round_from first (suc n) = Session first ∷ round_from (first + 1) n

abbrev pub rounds_of : ℕ → ℕ → List Actor
rounds_of sessions zero = []
rounds_of sessions (suc n) = round_from 1 sessions ++ rounds_of sessions n

-- The actors whose turns the words give, in a script of so many sessions: a session that has no line left makes none in its place.
abbrev pub actors_of : ℕ → List Word → List Actor
actors_of sessions [] = []
actors_of sessions (word.Turns actor count ∷ words) = replicate count actor ++ actors_of sessions words
actors_of sessions (word.Finish rounds ∷ words) = rounds_of sessions rounds ++ actors_of sessions words

-- ---- how far the run is

-- the machine, the lines that each session has left, and what its names are bound to
pub record Progress : Type 0 where
  pub machine : Machine
  pub lines : List (List Line)
  pub names : List (List (Option Rid))

abbrev pub lines_at : Progress → ℕ → List Line
lines_at p k = slice_index_or p.lines k []

abbrev pub names_at : Progress → ℕ → List (Option Rid)
names_at p k = slice_index_or p.names k []

-- no name is bound
abbrev pub no_names : List (Option Rid)
no_names = replicate 26 None

abbrev pub begun : Opening → List (List Line) → Progress
begun o lines = record { machine = started o; lines = lines; names = replicate (length lines) no_names }

-- ---- one turn

-- The operation that a session's turn is for: that of its next line. Where the run closes its sessions, one without a line aborts the transaction
-- that it still has.
abbrev pub closing_op : Bool → ℕ → Option Op
closing_op false txn = None
closing_op true zero = None
closing_op true (suc txn) = Some ops.Abort

abbrev pub op_at : Bool → List Line → List (Option Rid) → ℕ → Option Op
op_at closes [] names txn = closing_op closes txn
op_at closes (line ∷ lines) names txn = Some (op_of line names)

abbrev pub wanted : Bool → Progress → ℕ → Option Op
wanted closes p k = op_at closes (lines_at p k) (names_at p k) (seat_at p.machine.state.seats k).txn

-- the operation that a move finishes
abbrev pub finished_by : Move → Option Outcome
finished_by (turns k turn) = outcome_of turn
finished_by other = None

-- a move after which the session makes no further line
abbrev pub IsStop : Move → Type 0
IsStop (answered k (log_full at)) = Unit {0}
IsStop (answered k (spent last)) = Unit {0}
IsStop other = ⊥

-- the lines left after a move: one is over at its reply
abbrev pub left_with : Option Outcome → List Line → List Line
left_with None lines = lines
left_with (Some outcome) [] = []
left_with (Some outcome) (line ∷ lines) = lines

abbrev pub left_after : Move → List Line → List Line
left_after (answered k (log_full at)) lines = []
left_after (answered k (spent last)) lines = []
left_after (turns k turn) lines = left_with (outcome_of turn) lines
left_after other lines = lines

-- what the names are bound to after it
abbrev pub names_with : Option Outcome → List Line → List (Option Rid) → List (Option Rid)
names_with (Some outcome) (line ∷ lines) names = names_after line (reply_of outcome) names
names_with outcome lines names = names

-- the progress after a session's move, and after one of the background
abbrev pub advanced : Progress → ℕ → Move → State → Progress
advanced p k move new = record {
  machine = moved p.machine move new;
  lines = slice_set p.lines k (left_after move (lines_at p k));
  names = slice_set p.names k (names_with (finished_by move) (lines_at p k) (names_at p k));
}

abbrev pub kept_up : Progress → Move → State → Progress
kept_up p move new = record p { machine = moved p.machine move new }

-- One turn of an actor, by this move, or by none where a session wants none.
abbrev pub ByActor : Bool → Progress → Actor → Option Move → Progress → Type 0
ByActor closes old (Session (suc k)) None new = (wanted closes old k ≡ None) × (new ≡ old)
ByActor closes old (Session (suc k)) (Some move) new = (op : Op) × (state : State) × (wanted closes old k ≡ Some op)
    × IsMoveFor old.machine.opening.setting old.machine.state k op move × Moves old.machine.opening.setting old.machine.state move state × (new ≡ advanced old k move state)
ByActor closes old Flush (Some (rests Flush (sees.Force durable))) new = (state : State)
    × Moves old.machine.opening.setting old.machine.state (rests Flush (sees.Force durable)) state × (new ≡ kept_up old (rests Flush (sees.Force durable)) state)
ByActor closes old actor move new = ⊥

-- ---- the run

-- a run by words ends at a stop; one that closes its sessions goes on, and they are closed
abbrev pub GoesOn : Bool → Option Move → Type 0
GoesOn false (Some move) = IsStop move → ⊥
GoesOn closes move = Unit {0}

abbrev pub ByActors : Bool → Progress → List Actor → Progress → Type 0
ByActors closes old [] new = new ≡ old
ByActors closes old (actor ∷ actors) new =
    (move : Option Move) × (mid : Progress) × ByActor closes old actor move mid × GoesOn closes move × ByActors closes mid actors new

-- the run by the words stops at this move, some of them left
pub record StopsBy (old : Progress) (actors : List Actor) (move : Move) (new : Progress) : Type 0 where
  pub before : List Actor
  pub actor : Actor
  pub rest : List Actor
  pub cut : actors ≡ before ++ (actor ∷ rest)
  pub mid : Progress
  pub so_far : ByActors false old before mid
  pub last : ByActor false mid actor (Some move) new
  pub stops : IsStop move
