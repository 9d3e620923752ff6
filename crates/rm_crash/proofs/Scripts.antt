-- The run of a script makes no checkpoint.
use Rattle.std.specs.Prelude.{ℕ, suc, Bool, false, List, [], ◌∷◌, Option, Some, None}
use Rattle.std.proofs.Common.{sym, subst}
use Rattle.rm_core.specs.Below.{Actor, Session, Flush, Op}
use Rattle.rm_core.specs.Names.{Move, Seat, State, Turn, again, answered, log_full, rests, seat_at, seen_of, skip, spent, traced, turns}
use Rattle.rm_play.specs.Choices.{IsMoveFor}
use Rattle.rm_play.specs.Words.{ByActor, ByActors, Progress}
use Rattle.rm_crash.specs.Crashes.{IsOther, TellsNoCheckpoint}
use Rattle.rm_crash.specs.Laws.{ScriptsMakeNoCheckpoint}
use Rattle.rm_events.specs.declared.events.Seen.TheVariants as sees

-- no turn of a session appends one
turn_is_other : (pages : ℕ) (s : State) (seat : Seat) (turn : Turn) → IsOther (seen_of pages s seat turn)
turn_is_other pages s seat (skip op) = tt
turn_is_other pages s seat other = tt

move_tells : (old : Progress) (k : ℕ) (op : Op) (move : Move) → IsMoveFor old.machine.opening.setting old.machine.state k op move
    → TellsNoCheckpoint old.machine.trace → TellsNoCheckpoint (traced old.machine.opening.setting.pages old.machine.state move old.machine.trace)
move_tells old k op (turns j turn) is none =
    (turn_is_other old.machine.opening.setting.pages old.machine.state (seat_at old.machine.state.seats j) turn, none)
move_tells old k op (answered j (again by)) is none = none
move_tells old k op (answered j (log_full at)) is none = none
move_tells old k op (answered j (spent last)) is none = none
move_tells old k op other is none = absurd is

actor_tells : (closes : Bool) (old new : Progress) (actor : Actor) (move : Option Move) → ByActor closes old actor move new
    → TellsNoCheckpoint old.machine.trace → TellsNoCheckpoint new.machine.trace
actor_tells closes old new (Session (suc k)) None by none = subst (λ (p : Progress). TellsNoCheckpoint p.machine.trace) (sym by.1) none
actor_tells closes old new (Session (suc k)) (Some move) by none =
    subst (λ (p : Progress). TellsNoCheckpoint p.machine.trace) (sym by.5) (move_tells old k by.0 move by.3 none)
actor_tells closes old new Flush (Some (rests Flush (sees.Force durable))) by none =
    subst (λ (p : Progress). TellsNoCheckpoint p.machine.trace) (sym by.2) (tt, none)
actor_tells closes old new actor move by none = absurd by

actors_tell : (closes : Bool) (old new : Progress) (actors : List Actor) → ByActors closes old actors new
    → TellsNoCheckpoint old.machine.trace → TellsNoCheckpoint new.machine.trace
actors_tell closes old new [] by none = subst (λ (p : Progress). TellsNoCheckpoint p.machine.trace) (sym by) none
actors_tell closes old new (actor ∷ actors) by none =
    actors_tell closes by.1 new actors by.4 (actor_tells closes old by.1 actor by.0 by.2 none)

pub scripts_make_no_checkpoint : ScriptsMakeNoCheckpoint
scripts_make_no_checkpoint = record {
  goes = actors_tell;
  stops = λ old new actors move stops none.
      actor_tells false stops.mid new stops.actor (Some move) stops.last (actors_tell false old stops.mid stops.before stops.so_far none);
}
