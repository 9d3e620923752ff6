-- A trace follows the lines of a script.
use Rattle.std.specs.Prelude.{◌≡◌, ℕ, Bool, true, false, List, [], ◌∷◌, Option, slice_index_or, ◌⊎◌}
use Rattle.rm_core.specs.Below.{Rid, Actor, Line, op_of, names_after}
use Rattle.rm_core.specs.Names.{Event, Move, onto, Outcome, asked, reply_of, Opening, IsOpening, IsRun, of_session}
use Rattle.rm_play.specs.Words.{Progress, no_names, begun, ByActors, StopsBy}
use Rattle.rm_events.specs.declared.operations.Op.TheVariants as ops

-- a session's finished operations, the newest first
abbrev pub finished_of : List Event → ℕ → List Outcome
finished_of [] k = []
finished_of (newest ∷ before) k = of_session newest.actor k (onto newest.done (finished_of before k)) (finished_of before k)

-- They are the first lines in order, each with the names bound by those before it; these lines are left, and the names are bound so.
abbrev pub Follows : List Line → List Outcome → List Line → List (Option Rid) → Type 0
Follows lines [] left names = (left ≡ lines) × (names ≡ no_names)
Follows lines (newest ∷ before) left names = (line : Line) × (earlier : List (Option Rid)) × Follows lines before (line ∷ left) earlier
    × (asked newest ≡ op_of line earlier) × (names ≡ names_after line (reply_of newest) earlier)

-- some first lines in order; or these and then one abort, where sessions are closed
abbrev pub FollowsLines : List Line → List Outcome → Type 0
FollowsLines lines outcomes = (left : List Line) × (names : List (Option Rid)) × Follows lines outcomes left names

pub record IsAborted (lines : List Line) (outcomes : List Outcome) : Type 0 where
  pub newest : Outcome
  pub before : List Outcome
  pub cut : outcomes ≡ newest ∷ before
  pub abort : asked newest ≡ ops.Abort
  pub follows : FollowsLines lines before

-- what holds of a run of a script from an opening
pub record IsRunOf (closes : Bool) (lines : List (List Line)) (p : Progress) : Type 0 where
  pub run : IsRun p.machine
  pub follows : (k : ℕ) → FollowsLines (slice_index_or lines k []) (finished_of p.machine.trace k)
      ⊎ ((closes ≡ true) × IsAborted (slice_index_or lines k []) (finished_of p.machine.trace k))

-- The run by any list of actors is a run of the machine, and its trace follows the lines: by words, also where it stops; and by threads, which close their sessions.
pub record ScriptsRun : Type 0 where
  pub goes : (o : Opening) (closes : Bool) (lines : List (List Line)) (actors : List Actor) (p : Progress) → IsOpening o
      → ByActors closes (begun o lines) actors p → IsRunOf closes lines p
  pub stops : (o : Opening) (lines : List (List Line)) (actors : List Actor) (move : Move) (p : Progress) → IsOpening o
      → StopsBy (begun o lines) actors move p → IsRunOf false lines p
