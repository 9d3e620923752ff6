-- A turn is a move of a run.
use Rattle.std.specs.Prelude.{◌≡◌, ℕ, List, Ok}
use Rattle.std.proofs.Common.{sym, ap, subst}
use Rattle.rm_core.specs.Below.{Op}
use Rattle.rm_core.specs.Names.{Machine, IsRun, moved, Move, Moves, Setting, State}
use Rattle.rm_core.proofs.Runs.{moves_run}
use Rattle.rm_play.specs.Choosing.{chosen}
use Rattle.rm_play.proofs.Chosen.{chosen_is_move}
use Rattle.rm_events.specs.declared.turns.Turn.{Turn as Answer}
use Rattle.rm_ops.specs.Views.{View, HasSession, op_at}
use Rattle.rm_ops.specs.Making.{answer_of, MakesChosen, TurnsRun}

-- the tables stand where the run does
abbrev at : List Op → Setting → State → View
at asked setting s = record { setting = setting; state = s; asked = asked }

abbrev Goes : Machine → View → View → ℕ → Answer → Type 0
Goes m v new k told_it = HasSession v k → MakesChosen v k (Ok told_it) new
    → (lsn : ℕ) × IsRun (moved m (chosen v.setting v.state k lsn (op_at v k)) new.state) × (told_it ≡ answer_of (chosen v.setting v.state k lsn (op_at v k)))

goes : (m : Machine) (asked : List Op) (new : View) (k : ℕ) (told_it : Answer) → IsRun m → Goes m (at asked m.opening.setting m.state) new k told_it
goes m asked new k told_it run among makes =
    let v : View = at asked m.opening.setting m.state in
    let move : Move = chosen v.setting v.state k makes.lsn (op_at v k) in
    let moves : Moves m.opening.setting m.state move new.state = subst (λ (s : State). Moves m.opening.setting m.state move s)
    (sym (ap (λ (w : View). w.state) makes.makes.does.0)) (chosen_is_move m k makes.lsn (op_at v k) run among makes.next).1 in
    (makes.lsn, moves_run m move new.state run moves, makes.makes.does.1)

pub turns_run : TurnsRun
turns_run m v new k told_it run setting_is state_is among makes =
    subst (λ (setting : Setting). Goes m (at v.asked setting v.state) new k told_it) setting_is
    (subst (λ (s : State). Goes m (at v.asked m.opening.setting s) new k told_it) state_is (goes m v.asked new k told_it run)) among makes
