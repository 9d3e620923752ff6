-- The run of a script as a function of its free choices.
use Rattle.std.specs.Prelude.{ℕ, suc, ◌+◌, ◌<◌, Bool, true, false, List, [], ◌∷◌, length, option_map, Option, Some, None}
use Rattle.rm_core.specs.Below.{History, BATCH_HEADER, Actor}
use Rattle.rm_core.specs.Below.{Session, Flush}
use Rattle.rm_core.specs.Names.{Move, rests, IsRun, end_of}
use Rattle.rm_play.specs.Choosing.{chosen, state_after}
use Rattle.rm_play.specs.Words.{Progress, wanted, advanced, kept_up, ByActor}
use Rattle.rm_events.specs.declared.events.Seen.TheVariants as sees

-- the offset of the next record: the end of the newest one, or a batch's header more
abbrev pub offset_after : History → Bool → ℕ
offset_after [] more = BATCH_HEADER
offset_after (newest ∷ before) false = end_of (newest ∷ before)
offset_after (newest ∷ before) true = end_of (newest ∷ before) + BATCH_HEADER

-- an actor's turn, with its one free choice
pub record Due : Type 0 where
  pub actor : Actor
  pub more : Bool

abbrev pub move_at : Bool → Progress → ℕ → Actor → Option Move
move_at closes p offset (Session (suc k)) = option_map (chosen p.machine.opening.setting p.machine.state k offset) (wanted closes p k)
move_at closes p offset Flush = Some (rests Flush (sees.Force offset))
move_at closes p offset actor = None

abbrev pub after_move : Progress → Actor → Option Move → Progress
after_move p (Session (suc k)) (Some move) = advanced p k move (state_after p.machine.opening.setting p.machine.state move)
after_move p actor (Some move) = kept_up p move p.machine.state
after_move p actor None = p

abbrev pub due_move : Bool → Progress → Due → Option Move
due_move closes p due = move_at closes p (offset_after p.machine.state.history due.more) due.actor

abbrev pub play : Bool → Progress → List Due → Progress
play closes p [] = p
play closes p (due ∷ dues) = play closes (after_move p due.actor (due_move closes p due)) dues

-- a session of the machine, or the flush
abbrev pub IsActor : ℕ → Actor → Type 0
IsActor sessions (Session (suc k)) = k < sessions
IsActor sessions Flush = Unit {0}
IsActor sessions actor = ⊥

-- Each turn of a run can be made, by the function's move.
abbrev pub TurnsAreMade : Type 0
TurnsAreMade = (closes : Bool) (p : Progress) (due : Due) → IsRun p.machine → IsActor (length p.machine.state.seats) due.actor
    → ByActor closes p due.actor (due_move closes p due) (after_move p due.actor (due_move closes p due))
