-- Each turn brings its operation nearer to its end.
use Rattle.std.specs.Prelude.{◌≡◌, ℕ, ◌+◌, ◌*◌, ◌<◌, ◌≤◌, Bool, List, [], ◌∷◌, length}
use Rattle.rm_core.specs.Below.{Format, Rid, Change, undoes, pending_of, undo_for, Op}
use Rattle.rm_core.specs.Names.{effect, logging, staged, Kept, Asks, IsSeated, May, Step, again, log_full, spent, Setting, closed, Move, turns, answered}
use Rattle.rm_core.specs.Names.{appends, append_refused, rests, Moves, Opening, Machine, IsRun, moved, target_of, Stage, idle, prepares}
use Rattle.rm_core.specs.Names.{Seat, State, seat_at, Turn, prepared, prepare, compensate}
use Rattle.rm_play.specs.{Takes, TakesAt, above, left_at, turns_left, most_turns, TurnsComeNearer, Adds, Makes, OperationsEnd}
use Rattle.rm_core.proofs.Names.{nat_tests, inl, inr, refl, sym, ap, subst, ◌∙◌, arith, ltb, cases_eq, cond_both, lt-ltb, last_is_of, pending_of-undo}
use Rattle.rm_core.proofs.Moves.{moved-set}
use Rattle.rm_core.proofs.Runs.{moves_run, run_kept}
use Rattle.rm_core.proofs.Stages.{apart_or_idle}
use Rattle.rm_core.proofs.Turns.{heads_at, turn_elsewhere}
use Rattle.rm_play.proofs.Inside.{Within, run_inside}
use Rattle.rm_events.specs.declared.operations.Op.TheVariants as ops

above_within : (floor : ℕ) (pending : List Change) → above floor pending ≤ length pending
above_within floor [] = omega arith
above_within floor (newest ∷ before) = omega (arith, above_within floor before, cond_both (ltb floor newest.lsn) 1 0 (λ (n : ℕ). n ≤ 1) (λ e. omega arith) (λ e. omega arith))

above_last : (floor : ℕ) (pending : List Change) (last : Change) (rest : List Change) → pending ≡ last ∷ rest → floor < last.lsn → above floor pending ≡ 1 + above floor rest
above_last floor pending last rest is less = ap (above floor) is ∙ rw (lt-ltb floor last.lsn less) refl

most_some : (pages : ℕ) (pending : List Change) (op : Op) → 1 ≤ most_turns pages pending op
most_some pages pending (ops.Read rid) = omega arith
most_some pages pending op = omega arith

-- the turns that an effect leaves are fewer; those that a first one leaves are those of the operation but itself
module _ (format : Format) (pages : ℕ) (s : State) (k : ℕ) (op : Op) (kept : Kept format s) (among : k < length s.seats) (within : Within pages (seat_at s.seats k).stage) where
  abbrev seat : Seat
  seat = seat_at s.seats k

  abbrev pending : List Change
  pending = pending_of s.history seat.txn

  abbrev left_by : Turn → ℕ
  left_by turn = turns_left pages (logging (effect format s seat turn).logged s.history) (effect format s seat turn).seat

  abbrev Nears : Turn → Type 0
  Nears turn = ((seat.stage ≡ idle → ⊥) → left_by turn < turns_left pages s.history seat) × (seat.stage ≡ idle → Takes turn op → left_by turn + 1 ≤ most_turns pages pending op)

  -- a lock that is refused may end the transaction
  most_died : (o : Op) (rid : Rid) (alone : Bool) → Asks o rid alone → 3 * length pending + 2 ≤ most_turns pages pending o
  most_died o rid alone asks = grind (arith, nat_tests)

  near : (turn : Turn) → IsSeated seat turn → May format pages s k seat turn → Nears turn
  near (prepared aim last) seated may =
      let head = heads_at format s k (prepares aim last.rid.page) (record { kept = kept; among = among; some = seated }) may.0 last.rid.page refl in
      let more = above_last (target_of aim) pending head.0 head.1 head.2 head.4 in grind (arith, nat_tests)
  near (prepare aim last lsn) seated may =
      let head = heads_at format s k (prepares aim last.rid.page) (record { kept = kept; among = among; some = seated }) may.at last.rid.page refl in
      let more = above_last (target_of aim) pending head.0 head.1 head.2 head.4 in grind (arith, nat_tests)
  near (compensate aim last lsn) seated may =
      let rest : List Change = may.1.0 in
      let mine : last.txn ≡ seat.txn = last_is_of s.history seat.txn last rest may.1.1 in
      let undone : pending_of (undoes (undo_for lsn last) ∷ s.history) seat.txn ≡ rest =
      subst (λ (t : ℕ). pending_of (undoes (undo_for lsn last) ∷ s.history) t ≡ rest) mine
      (pending_of-undo s.history (undo_for lsn last) last rest (subst (λ (t : ℕ). pending_of s.history t ≡ last ∷ rest) (sym mine) may.1.1)) in
      let more = above_last (target_of aim) pending last rest may.1.1 may.3 in grind (arith, nat_tests)
  near turn seated may = grind (arith, nat_tests, most_some, above_within, most_died)

step_nears : (format : Format) (pages : ℕ) (old new : State) (k : ℕ) (op : Op) (turn : Turn) → Kept format old → Within pages (seat_at old.seats k).stage → Step format pages old k turn new
    → (((seat_at old.seats k).stage ≡ idle → ⊥) → turns_left pages new.history (seat_at new.seats k) < turns_left pages old.history (seat_at old.seats k))
    × ((seat_at old.seats k).stage ≡ idle → Takes turn op → turns_left pages new.history (seat_at new.seats k) + 1 ≤ most_turns pages (pending_of old.history (seat_at old.seats k).txn) op)
step_nears format pages old new k op turn kept within step =
    let e = effect format old (seat_at old.seats k) turn in
    let nears = near format pages old k op kept step.among within turn step.seated step.may in
    let left : turns_left pages new.history (seat_at new.seats k) ≡ turns_left pages (logging e.logged old.history) e.seat =
    ap (λ (s : State). turns_left pages s.history (seat_at s.seats k)) step.new_is ∙ ap (turns_left pages (logging e.logged old.history)) (moved-set old.seats k e.seat step.among).here in
    (λ busy. omega (arith, left, nears.0 busy), λ at takes. omega (arith, left, nears.1 at takes))

pub turns_come_nearer : TurnsComeNearer
turns_come_nearer m k op turn new run step takes =
    let nears = step_nears m.opening.setting.format m.opening.setting.pages m.state new k op turn (run_kept m run) ((run_inside m run).within k) step in
    record { busy = nears.0; begins = λ at. nears.1 at (subst (λ (st : Stage). TakesAt st turn op) at takes) }

-- another session's turn leaves the session's turns
step_leaves : (format : Format) (pages : ℕ) (old new : State) (j k : ℕ) (turn : Turn) → Kept format old → Step format pages old j turn new → (j ≡ k → ⊥)
    → turns_left pages new.history (seat_at new.seats k) ≡ turns_left pages old.history (seat_at old.seats k)
step_leaves format pages old new j k turn kept step differs =
    let e = effect format old (seat_at old.seats j) turn in
    let others : k ≡ j → ⊥ = λ same. differs (sym same) in
    ap (λ (s : State). turns_left pages s.history (seat_at s.seats k)) step.new_is
    ∙ ap (turns_left pages (logging e.logged old.history)) ((moved-set old.seats j e.seat step.among).other k others)
    ∙ elim (apart_or_idle format old j k kept others) [
      | inl at ↦ rw at refl
      | inr apart ↦ ap (λ (l : List Change). left_at pages l (seat_at old.seats k).stage)
          ((turn_elsewhere format pages old j (seat_at old.seats j) turn step.may).pending (seat_at old.seats k).txn apart)
    ]

-- an operation that is closed leaves the session none
closed_leaves : (pages : ℕ) (s : State) (j k : ℕ) → j < length s.seats → turns_left pages s.history (seat_at (closed s j).seats k) ≤ turns_left pages s.history (seat_at s.seats k)
closed_leaves pages s j k among =
    let moved = moved-set s.seats j (staged (seat_at s.seats j) idle) among in
    elim (cases_eq k j) [
      | inl same ↦ let none : turns_left pages s.history (seat_at (closed s j).seats k) ≡ 0 = ap (turns_left pages s.history) (ap (seat_at (closed s j).seats) same ∙ moved.here) in omega (arith, none)
      | inr differs ↦ let left = ap (turns_left pages s.history) (moved.other k differs) in omega (arith, left)
    ]

still_nears : (pages : ℕ) (s new : State) (k before n : ℕ) → new ≡ s → n ≡ before
    → n + turns_left pages new.history (seat_at new.seats k) ≤ before + turns_left pages s.history (seat_at s.seats k)
still_nears pages s new k before n same is = let left = ap (λ (state : State). turns_left pages state.history (seat_at state.seats k)) same in omega (arith, is, left)

move_nears : (m : Setting) (s new : State) (k before n : ℕ) (move : Move) → Kept m.format s → Within m.pages (seat_at s.seats k).stage → Moves m s move new → Adds k s move before n
    → n + turns_left m.pages new.history (seat_at new.seats k) ≤ before + turns_left m.pages s.history (seat_at s.seats k)
move_nears m s new k before n (turns j turn) kept within moves (inl is) =
    let step : Step m.format m.pages s k turn new = subst (λ (i : ℕ). Step m.format m.pages s i turn new) is.0 moves.0 in
    let fewer = (step_nears m.format m.pages s new k ops.Commit turn kept within step).0 is.1 in omega (arith, is.2, fewer)
move_nears m s new k before n (turns j turn) kept within moves (inr is) = omega (arith, is.1, step_leaves m.format m.pages s new j k turn kept moves.0 is.0)
move_nears m s new k before n (answered j (again by)) kept within moves is = still_nears m.pages s new k before n moves.1.1 is
move_nears m s new k before n (answered j (spent last)) kept within moves is = still_nears m.pages s new k before n moves.1.2 is
move_nears m s new k before n (answered j (log_full from)) kept within moves is =
    let left = ap (λ (state : State). turns_left m.pages state.history (seat_at state.seats k)) moves.1.1 in omega (arith, is, left, closed_leaves m.pages s j k moves.0)
move_nears m s new k before n (appends l) kept within moves is =
    let left = ap (λ (state : State). turns_left m.pages state.history (seat_at state.seats k)) moves.2 in omega (arith, is, left)
move_nears m s new k before n (append_refused from) kept within moves is = still_nears m.pages s new k before n moves.1 is
move_nears m s new k before n (rests actor seen) kept within moves is = still_nears m.pages s new k before n moves.1 is

-- moves from a machine on
record Nearer (old new : Machine) (k n : ℕ) : Type 0 where
  opening : new.opening ≡ old.opening
  run : IsRun new
  nears : n + turns_left new.opening.setting.pages new.state.history (seat_at new.state.seats k) ≤ turns_left new.opening.setting.pages old.state.history (seat_at old.state.seats k)

makes_nearer : (k n : ℕ) (old new : Machine) (moves : List Move) → IsRun old → Makes k old moves n new → Nearer old new k n
makes_nearer k n old new [] run makes = subst (λ (machine : Machine). Nearer old machine k n) (sym makes.1) (record { opening = refl; run = run; nears = omega (arith, makes.0) })
makes_nearer k n old new (newest ∷ moves) run makes =
    let mid : Machine = makes.0 in
    let so : Nearer old mid k makes.1 = makes_nearer k makes.1 old mid moves run makes.3 in
    subst (λ (machine : Machine). Nearer old machine k n) (sym makes.6) (record {
      opening = so.opening;
      run = moves_run mid newest makes.2 so.run makes.4;
      nears = omega (arith, so.nears, move_nears mid.opening.setting mid.state makes.2 k makes.1 n newest (run_kept mid so.run) ((run_inside mid so.run).within k) makes.4 makes.5);
    })

pub operations_end : OperationsEnd
operations_end m new state k n op turn moves run at takes first makes =
    let begun : Machine = moved m (turns k turn) state in
    let so : Nearer begun new k n = makes_nearer k n begun new moves (moves_run m (turns k turn) state run first) makes in
    let begins = (turns_come_nearer m k op turn state run first.0 (subst (λ (st : Stage). TakesAt st turn op) (sym at) takes)).begins at in
    let pages : ℕ = m.opening.setting.pages in
    let nears : n + turns_left pages new.state.history (seat_at new.state.seats k) ≤ turns_left pages state.history (seat_at state.seats k) =
    subst (λ (o : Opening). n + turns_left o.setting.pages new.state.history (seat_at new.state.seats k) ≤ turns_left o.setting.pages state.history (seat_at state.seats k)) so.opening so.nears in
    omega (arith, nears, begins)
