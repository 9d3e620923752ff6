-- Runs of the machine from an opening, and the events that they leave.
use Rattle.std.specs.Prelude.{◌≡◌, ℕ, ◌^◌, ◌<◌, ◌≤◌, List, [], ◌∷◌, None, replicate}
use Rattle.rm_core.specs.Below.{History, IsLegal, IsFinished, HasRecord, Checkpoint}
use Rattle.rm_core.specs.Events.{Event, event_of}
use Rattle.rm_core.specs.Kept.{IsRight}
use Rattle.rm_core.specs.Moves.{Setting, Move, turns, answered, appends, append_refused, rests, Moves}
use Rattle.rm_core.specs.Sizes.{end_of}
use Rattle.rm_core.specs.State.{State, empty_seat}
use Rattle.rm_events.specs.declared.events.Seen.TheVariants as sees

-- what a machine starts from: the log that restart left, how many sessions there are, and the next id
pub record Opening : Type 0 where
  pub setting : Setting
  pub history : History
  pub sessions : ℕ
  pub next : ℕ

-- what has to hold of it: nothing is unfinished, and each page's entry is its category
pub record IsOpening (o : Opening) : Type 0 where
  pub legal : IsLegal o.setting.format o.history
  pub finished : (txn : ℕ) → HasRecord o.history txn → IsFinished o.history txn
  pub right : (page : ℕ) → IsRight o.setting.format o.history page
  pub fresh : (txn : ℕ) → HasRecord o.history txn → txn < o.next
  pub some : 0 < o.next
  pub ids : o.next ≤ 2 ^ 32
  pub room : end_of o.history ≤ o.setting.limit

-- the sessions without transactions
abbrev pub opened : Opening → State
opened o = record { history = o.history; grants = []; seats = replicate o.sessions empty_seat; next = o.next }

-- the trace with a move's event, the newest first: an answer has none
abbrev pub traced : ℕ → State → Move → List Event → List Event
traced pages old (turns k turn) trace = event_of pages old k turn ∷ trace
traced pages old (answered k answer) trace = trace
traced pages old (appends l) trace = record { actor = Checkpoint; txn = 0; seen = sees.Append l.lsn; done = None } ∷ trace
traced pages old (append_refused end) trace = trace
traced pages old (rests actor seen) trace = record { actor = actor; txn = 0; seen = seen; done = None } ∷ trace

-- A machine that has moved: what it started from, its moves, the newest first, their events, and its state.
pub record Machine : Type 0 where
  pub opening : Opening
  pub moves : List Move
  pub trace : List Event
  pub state : State

-- these moves from the opening leave the events and the state
abbrev pub Runs : Opening → List Move → List Event → State → Type 0
Runs o [] trace state = (trace ≡ []) × (state ≡ opened o)
Runs o (newest ∷ moves) trace state =
    (before : List Event) × (mid : State) × Runs o moves before mid × Moves o.setting mid newest state × (trace ≡ traced o.setting.pages mid newest before)

pub record IsRun (m : Machine) : Type 0 where
  pub opening : IsOpening m.opening
  pub runs : Runs m.opening m.moves m.trace m.state

-- a machine that has made no move; one that makes a move
abbrev pub started : Opening → Machine
started o = record { opening = o; moves = []; trace = []; state = opened o }

abbrev pub moved : Machine → Move → State → Machine
moved m move new = record { opening = m.opening; moves = move ∷ m.moves; trace = traced m.opening.setting.pages m.state move m.trace; state = new }
