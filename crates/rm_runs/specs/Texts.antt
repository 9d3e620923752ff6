-- What is printed of a run.
use Rattle.std.specs.Prelude.{ℕ, zero, suc, List, [], ◌∷◌, ◌++◌, Option, Some, None}
use Rattle.rm_core.specs.Below.{Actor, Session, Seen}
use Rattle.rm_core.specs.Names.{Event, Outcome, reply_of, State, seat_at}
use Rattle.rm_events.specs.declared.events.Seen.TheVariants as sees
use Rattle.rm_events.specs.declared.turns.Turn.{Turn}
use Rattle.rm_events.specs.declared.turns.Turn.TheVariants as turn
use Rattle.rm_script.specs.Texts.{turn_line, waits_line, unfinished_line}

-- of an event: a session's reply, or for whom it waits
abbrev pub printed_of : Actor → Seen → Option Outcome → List ℕ
printed_of (Session k) seen (Some outcome) = turn_line k (reply_of outcome)
printed_of (Session k) (sees.Waits rid holder) None = waits_line k holder.0
printed_of actor seen outcome = []

abbrev pub event_text : Event → List ℕ
event_text event = printed_of event.actor event.seen event.done

-- of a trace, which has the newest event first
abbrev pub trace_text : List Event → List ℕ
trace_text [] = []
trace_text (newest ∷ before) = trace_text before ++ event_text newest

-- of a turn's answer to a session
abbrev pub answer_text : ℕ → Turn → List ℕ
answer_text session (turn.Done reply) = turn_line session reply
answer_text session (turn.Waits holder) = waits_line session holder.0
answer_text session other = []

-- at the end, of a session's transaction, by its number, 0 for none
abbrev pub open_line : ℕ → ℕ → List ℕ
open_line session zero = []
open_line session (suc txn) = unfinished_line session (suc txn)

-- and of the transactions of the first so many sessions
abbrev pub open_text : State → ℕ → List ℕ
open_text s zero = []
open_text s (suc k) = open_text s k ++ open_line (suc k) (seat_at s.seats k).txn
