-- What the trace of a run tells: its log, what is acknowledged, the end of a search, and what a read is told.
use Rattle.std.specs.Prelude.{ℕ, List, ◌∷◌, ◌≡◌, [], Option, Some, None, suc}
use Rattle.rm_core.specs.Below.{Format, Slot, Row, Vacant, Act, History, changes, lists, marks, Seen, Session}
use Rattle.rm_core.specs.Names.{change_of, after, Event, TracesTellLogs, TellsLog, May, seens_of, Seat, State, Turn, insert, alter, settled, settle, commit}
use Rattle.rm_core.specs.Names.{prepare, compensate, end, IsForcedFor, IsDurable, effect, logging, event_of, AcknowledgedIsDurable, order_of, IsAmong}
use Rattle.rm_core.specs.Names.{IsAcknowledged, committed, Machine, IsRun, no_space, EndsSearch, NoSpaceIsExact, ReadsAreExact}
use Rattle.rm_core.proofs.Names.{arith, nat_tests, inl, inr, refl, sym, ap, subst, eq-eqb}
use Rattle.rm_core.proofs.Runs.{setting_of, seat_of, kept_along, append_event, rest_event, turned}
use Rattle.rm_core.proofs.Stages.{Says, event_at, IsQuiet, rest_is_quiet, run_says, among_more, durable_more, Told, turn_told, AllHandled, ends_told}

module _ (format : Format) (pages : ℕ) (start : History) (seens : List Seen) (trace : List Event) (s : State) (k : ℕ) (seat : Seat)
    (tells : TellsLog format start trace s.history) where
  turn_tells : (turn : Turn) → May format pages s k seat turn → Says seens trace s.history seat.txn seat.stage
      → TellsLog format start (event_at pages s k seat turn ∷ trace) (after format s k seat turn).history
  turn_tells (insert row rid lsn) may says =
      let c : Slot → Act = λ held. changes (change_of s.history seat.txn rid held (Row row) lsn) in
      inr (c Vacant, s.history, refl, (Row row, ap c (sym may.is_slot.vacant)), tt, tells)
  turn_tells (alter rid slot lsn) may says = inr (_, _, refl, (slot, refl), tt, tells)
  turn_tells (settled outcome page) may says = inl (refl, (rw may.0 at says).1, tells)
  turn_tells (settle outcome page lsn) may says = inr (_, _, refl, refl, (rw may.at at says).1, tells)
  turn_tells (commit lsn) may says = inr (_, _, refl, refl, tt, tells)
  turn_tells (prepare aim last lsn) may says = inr (_, _, refl, (last, (may.next.0, may.next.1), refl, refl), tt, tells)
  turn_tells (compensate aim last lsn) may says = inr (_, _, refl, (last, (may.1.0, may.1.1), refl, refl), tt, tells)
  turn_tells (end outcome lsn) may says = inr (_, _, refl, refl, tt, tells)
  turn_tells other may says = inl (refl, tt, tells)

pub traces_tell_logs : TracesTellLogs
traces_tell_logs = kept_along (λ o trace s. TellsLog o.setting.format o.history trace s.history) (record {
  base = λ o is. refl;
  turn = λ m k turn run tells moves.
      turn_tells (setting_of m).format (setting_of m).pages m.opening.history (seens_of m.trace k) m.trace m.state k (seat_of m k) tells turn
      moves.0.may (run_says m run k);
  close = λ m k run tells among closes. tells;
  append = λ m l run tells moves. inr (marks (lists l), m.state.history, refl, (l, refl, refl), tt, tells);
  rest = λ m actor seen run tells may.
      let quiet : IsQuiet (setting_of m).pages actor seen = rest_is_quiet m.state actor seen may in
      inl (quiet.none, quiet.change m.state.history, tells);
})

-- ---- what is acknowledged is in the order of commits, and durable

abbrev AllDurable : History → List Event → Type 0
AllDurable history trace = (txn : ℕ) → IsAcknowledged trace txn → IsDurable history trace txn

more_durable : (logged : Option Act) (history : History) (e : Event) (trace : List Event) → AllDurable history trace
    → (e.done ≡ Some committed → IsDurable (logging logged history) (e ∷ trace) e.txn) → AllDurable (logging logged history) (e ∷ trace)
more_durable logged history e trace all here txn (inl now) = subst (IsDurable (logging logged history) (e ∷ trace)) now.0 (here now.1)
more_durable logged history e trace all here txn (inr before) = durable_more logged history e trace txn (all txn before)

run_durable : (m : Machine) → IsRun m → AllDurable m.state.history m.trace
run_durable = kept_along (λ o trace s. AllDurable s.history trace) (record {
  base = λ o is txn none. absurd none;
  turn = λ m k turn run all moves.
      let e : Event = event_of (setting_of m).pages m.state k turn in
      let seens : List Seen = e.seen ∷ seens_of m.trace k in
      let told : Told (setting_of m).pages (turned m k turn).history seens (e ∷ m.trace) e.txn e.done =
      turn_told (setting_of m).format (setting_of m).pages m.state k (seat_of m k) (seens_of m.trace k) m.trace turn moves.0.may (run_says m run k) in
      more_durable (effect (setting_of m).format m.state (seat_of m k) turn).logged m.state.history e m.trace all
      (λ done. subst (Told (setting_of m).pages (turned m k turn).history seens (e ∷ m.trace) e.txn) done told);
  close = λ m k run all among closes. all;
  append = λ m l run all moves. more_durable (Some (marks (lists l))) m.state.history (append_event l) m.trace all (λ done. cc);
  rest = λ m actor seen run all may. more_durable None m.state.history (rest_event actor seen) m.trace all (λ done. cc);
})

-- what is durable was committed
durable_among : (trace : List Event) (txn durable : ℕ) → IsForcedFor trace txn durable → IsAmong (order_of trace) txn
durable_among [] txn durable is = absurd is
durable_among (newest ∷ before) txn durable (inl now) = among_more newest.seen newest.txn (order_of before) txn now.1
durable_among (newest ∷ before) txn durable (inr is) = among_more newest.seen newest.txn (order_of before) txn (durable_among before txn durable is)

pub acknowledged_is_durable : AcknowledgedIsDurable
acknowledged_is_durable = record {
  ordered = λ m txn run is. let durable = run_durable m run txn is in durable_among m.trace txn durable.durable durable.told;
  durable = λ m txn run is. run_durable m run txn is;
}

-- ---- what is told of a search and of a read

-- what the newest event tells, of a session or of none
record LastTells (pages : ℕ) (history : History) (newest : Event) (before : List Event) : Type 0 where
  session : ℕ
  only : (k : ℕ) → newest.actor ≡ Session (suc k) → session ≡ k
  told : Told pages history (seens_of (newest ∷ before) session) (newest ∷ before) newest.txn newest.done
  last : EndsSearch pages newest.seen → (row : List ℕ) × (newest.done ≡ Some (no_space row))

abbrev TellsLast : ℕ → History → List Event → Type 0
TellsLast pages history [] = Unit {0}
TellsLast pages history (newest ∷ before) = LastTells pages history newest before

run_tells : (m : Machine) → IsRun m → TellsLast (setting_of m).pages m.state.history m.trace
run_tells = kept_along (λ o trace s. TellsLast o.setting.pages s.history trace) (record {
  base = λ o is. tt;
  turn = λ m k turn run tells moves. record {
    session = k;
    only = λ j is. cc;
    told = rw (eq-eqb k k refl)
        (turn_told (setting_of m).format (setting_of m).pages m.state k (seat_of m k) (seens_of m.trace k) m.trace turn moves.0.may (run_says m run k));
    last = ends_told (setting_of m).format (setting_of m).pages m.state k (seat_of m k) turn moves.0.may;
  };
  close = λ m k run tells among closes. tells;
  append = λ m l run tells moves. record { session = 0; only = λ k is. cc; told = tt; last = λ is. absurd is };
  rest = λ m actor seen run tells may.
      let quiet : IsQuiet (setting_of m).pages actor seen = rest_is_quiet m.state actor seen may in
      record { session = 0; only = λ k is. absurd (quiet.actors (suc k) is); told = tt; last = λ is. absurd (quiet.last is) };
})

-- of a trace with a newest event
last_tells : (m : Machine) (newest : Event) (before : List Event) → IsRun m → m.trace ≡ newest ∷ before
    → LastTells (setting_of m).pages m.state.history newest before
last_tells m newest before run is = subst (TellsLast (setting_of m).pages m.state.history) is (run_tells m run)

only : (pages : ℕ) (history : History) (newest : Event) (before : List Event) (k : ℕ) (row : List ℕ) → LastTells pages history newest before
    → newest.actor ≡ Session (suc k) → newest.done ≡ Some (no_space row) → AllHandled (seens_of (newest ∷ before) k) pages
only pages history newest before k row tells actor done = grind (arith, nat_tests)

pub no_space_is_exact : NoSpaceIsExact
no_space_is_exact = record {
  only = λ m newest before k row run is actor done.
      subst (λ (t : List Event). AllHandled (seens_of t k) (setting_of m).pages) (sym is)
      (only (setting_of m).pages m.state.history newest before k row (last_tells m newest before run is) actor done);
  always = λ m newest before run is. (last_tells m newest before run is).last;
  scanned = λ m k row from to found new moves. moves.0.may.passed;
  scanned_last = λ m k row from new moves. moves.0.may.passed;
  tried = λ m k row page number new moves. moves.0.may.0.lacks;
  tried_last = λ m k row page number new moves. moves.0.may.0.lacks;
}

pub reads_are_exact : ReadsAreExact
reads_are_exact m newest before rid slot run is done =
    let tells : LastTells (setting_of m).pages m.state.history newest before = last_tells m newest before run is in
    subst (Told (setting_of m).pages m.state.history (seens_of (newest ∷ before) tells.session) (newest ∷ before) newest.txn) done tells.told
