-- What a session's stage says of its turns, of the trace and of the log, along a run.
use Rattle.std.specs.Prelude.{◌≡◌, ◌⊎◌, ℕ, suc, ◌+◌, ◌<◌, ◌≤◌, Bool, List, [], ◌∷◌, length, Option, Some, None}
use Rattle.rm_core.specs.Below.{Format, Row, Vacant, slot_at, Act, Change}
use Rattle.rm_core.specs.Below.{History, commits, lists, marks, lsn_of, newest_lsn, page_of, pending_of, IsLast, IsInOrder, Actor, Session, Seen}
use Rattle.rm_core.specs.Names.{IsLogged, IsDurable, Effect, change_of, setting, effect, logging, latched, staged, after, Event, tried_of, seen_of, outcome_of}
use Rattle.rm_core.specs.Names.{txn_of, event_of, Kept, Writes, lsn_in, TellsChange, Wants, May, MayRest, ordered_with, order_of, IsAmong, Outcome, no_space}
use Rattle.rm_core.specs.Names.{saw, committed, Machine, IsRun, of_session, seens_of, IsHandled, EndsSearch, Scans, part_end, end_of, Aim, undoes_all, returns}
use Rattle.rm_core.specs.Names.{Stage, idle, seeks, wants, tries, settles, forces, finishes, rolls, prepares, compensates, Seat, State, seat_at, Turn}
use Rattle.rm_core.specs.Names.{scan_last, try, try_last, insert, alter, commit, force}
use Rattle.rm_core.proofs.Names.{nat_tests, inl, inr, refl, sym, ap, subst, arith, cases_lt, eq-eqb, ne_eqb, pending-change, legal_is_in_order}
use Rattle.rm_core.proofs.Runs.{setting_of, seat_of, append_event, rest_event, kept_along, each_seat, seat_empty, run_kept}
use Rattle.rm_core.proofs.Turns.{turn_elsewhere}
use Rattle.rm_core.proofs.Sizes.{size_some}
use Rattle.rm_events.specs.declared.events.Seen.TheVariants as sees

-- an outcome but those of no space, of a read and of a commit
abbrev pub IsPlain : Outcome → Type 0
IsPlain (no_space row) = ⊥
IsPlain (saw rid slot) = ⊥
IsPlain committed = ⊥
IsPlain other = Unit {0}

abbrev pub IsAimed : Aim → Type 0
IsAimed (undoes_all outcome) = IsPlain outcome
IsAimed (returns number lsn) = Unit {0}

-- each page below that one is handled
abbrev pub AllHandled : List Seen → ℕ → Type 0
AllHandled seens on = (page : ℕ) → page < on → IsHandled seens page

-- what a stage says of what the session's turns saw, of the trace and of the log
abbrev pub Says : List Seen → List Event → History → ℕ → Stage → Type 0
Says seens trace history txn (seeks row from) = AllHandled seens from × (0 < from)
Says seens trace history txn (wants row on) = AllHandled seens on
Says seens trace history txn (tries row on) = AllHandled seens on
Says seens trace history txn (settles outcome on) = IsPlain outcome × ((last : Change) × IsLast history txn last × Writes outcome last)
Says seens trace history txn forces = IsAmong (order_of trace) txn × ((lsn : ℕ) × IsLogged history (commits (record { lsn = lsn; txn = txn })))
Says seens trace history txn finishes = IsDurable history trace txn
Says seens trace history txn (rolls aim) = IsAimed aim
Says seens trace history txn (prepares aim on) = IsAimed aim
Says seens trace history txn (compensates aim on) = IsAimed aim
Says seens trace history txn other = Unit {0}

pub among_more : (seen : Seen) (named : ℕ) (order : List ℕ) (txn : ℕ) → IsAmong order txn → IsAmong (ordered_with seen named order) txn
among_more seen named order txn is = grind (arith, nat_tests)

pub durable_more : (logged : Option Act) (history : History) (e : Event) (trace : List Event) (txn : ℕ) → IsDurable history trace txn
    → IsDurable (logging logged history) (e ∷ trace) txn
durable_more logged history e trace txn is = grind (arith, nat_tests)

-- what a stage says holds after another's event, and after a record that leaves what is pending
still_says : (seens : List Seen) (trace : List Event) (e : Event) (logged : Option Act) (history : History) (txn : ℕ) (stage : Stage)
    → pending_of (logging logged history) txn ≡ pending_of history txn → Says seens trace history txn stage
    → Says seens (e ∷ trace) (logging logged history) txn stage
still_says seens trace e logged history txn stage pending says = grind (arith, nat_tests)

-- a record of the log stands before its end
logged_upto : (history : History) (act : Act) → IsInOrder history → IsLogged history act → lsn_of act ≤ newest_lsn history
logged_upto [] act ordered is = absurd is
logged_upto (newest ∷ before) act ordered (inl now) = omega (arith, ap lsn_of now)
logged_upto (newest ∷ before) act ordered (inr earlier) = omega (arith, ordered.1.above, logged_upto before act ordered.0 earlier)

logged_below : (history : History) (act : Act) → IsInOrder history → IsLogged history act → lsn_of act < end_of history
logged_below [] act ordered is = absurd is
logged_below (newest ∷ before) act ordered is = omega (arith, logged_upto (newest ∷ before) act ordered is, size_some newest)

-- the event of a session at this seat
abbrev pub event_at : ℕ → State → ℕ → Seat → Turn → Event
event_at pages s k seat turn = record { actor = Session (suc k); txn = txn_of seat turn; seen = seen_of pages s seat turn; done = outcome_of turn }

-- a part of the file ends after its start
part_some : (pages from to : ℕ) → to ≡ part_end pages from → to < pages → 0 < to
part_some pages from to is less = grind (arith, nat_tests)

module _ (format : Format) (pages : ℕ) (s : State) (k : ℕ) (seat : Seat) (seens : List Seen) (trace : List Event) where
  -- what its stage says before a turn, and what is said after it
  abbrev Said : Stage → Type 0
  Said stage = Says seens trace s.history seat.txn stage

  abbrev SaysThen : Turn → Type 0
  SaysThen turn =
      Says (seen_of pages s seat turn ∷ seens) (event_at pages s k seat turn ∷ trace) (after format s k seat turn).history (effect format s seat turn).seat.txn
      (effect format s seat turn).seat.stage

  -- a scan handles what it passes
  scan_says : (stage : Stage) (row : List ℕ) (from to : ℕ) (found : Bool) → Scans stage row from → Said stage → AllHandled (sees.Scan from to found ∷ seens) to
  scan_says stage row from to found scans says page below = grind (arith, nat_tests)

  try_says : (on slot : ℕ) → AllHandled seens on → AllHandled (tried_of s seat on slot ∷ seens) (on + 1)
  try_says on slot says page below = elim (cases_lt page on) [ inl before ↦ inr (says page before) | inr past ↦ inl (omega (arith, past, below)) ]

  latch_says : (stage : Stage) (page : ℕ) (e : Event) → Wants s seat stage page → Said stage
      → Says (sees.Latch page ∷ seens) (e ∷ trace) s.history seat.txn (latched stage page)
  latch_says stage page e is says = grind (arith, nat_tests)

  own_says : (turn : Turn) → IsInOrder s.history → May format pages s k seat turn → Said seat.stage → SaysThen turn
  own_says (try row page slot) ordered may says = (try_says page slot (rw may.0.at at says), omega arith)
  own_says (insert row rid lsn) ordered may says =
      let c : Change = change_of s.history seat.txn rid Vacant (Row row) lsn in (tt, (c, (pending_of s.history seat.txn, pending-change c s.history), (refl, refl)))
  own_says (alter rid slot lsn) ordered may says =
      let c : Change = setting s.history seat.txn rid slot lsn in (tt, (c, (pending_of s.history seat.txn, pending-change c s.history), (refl, refl)))
  own_says (commit lsn) ordered may says = (inl refl, (lsn, inl refl))
  own_says (force durable) ordered may says =
      let known = rw may.0 at says in
      let act : Act = commits (record { lsn = known.1.0; txn = seat.txn }) in
      let below : known.1.0 < durable = omega (arith, may.1, logged_below s.history act ordered known.1.1) in
      record { lsn = known.1.0; durable = durable; logged = known.1.1; told = inl (refl, known.0); below = below }
  own_says turn ordered may says = grind (arith, nat_tests, scan_says, latch_says, part_some)

abbrev pub SaysOf : List Event → History → ℕ → Seat → Type 0
SaysOf trace history k seat = Says (seens_of trace k) trace history seat.txn seat.stage

abbrev pub AllSay : List Event → State → Type 0
AllSay trace s = (k : ℕ) → SaysOf trace s.history k (seat_at s.seats k)

-- another session is idle, or has another transaction
pub apart_or_idle : (format : Format) (s : State) (k j : ℕ) → Kept format s → (j ≡ k → ⊥)
    → ((seat_at s.seats j).stage ≡ idle) ⊎ ((seat_at s.seats j).txn ≡ (seat_at s.seats k).txn → ⊥)
apart_or_idle format s k j kept differs = grind (arith, nat_tests)

turn_says : (format : Format) (pages : ℕ) (trace : List Event) (s : State) (k : ℕ) (turn : Turn) → Kept format s → k < length s.seats
    → May format pages s k (seat_at s.seats k) turn → AllSay trace s → AllSay (event_of pages s k turn ∷ trace) (after format s k (seat_at s.seats k) turn)
turn_says format pages trace s k turn kept among may all =
    let was : Seat = seat_at s.seats k in
    let e : Event = event_of pages s k turn in
    let new : Effect = effect format s was turn in
    each_seat (SaysOf (e ∷ trace) (logging new.logged s.history)) s.seats k new.seat among
    (rw (eq-eqb k k refl) (own_says format pages s k was (seens_of trace k) trace turn (legal_is_in_order format s.history kept.legal) may (all k)))
    (λ j not. rw (ne_eqb k j (λ is. not (sym is))) (elim (apart_or_idle format s k j kept not) [
      | inl at ↦ rw at tt
      | inr differs ↦ still_says (seens_of trace j) trace e new.logged s.history (seat_at s.seats j).txn (seat_at s.seats j).stage
          ((turn_elsewhere format pages s k was turn may).pending (seat_at s.seats j).txn differs) (all j)
    ]))

-- what the background's turns are not: a session's, of a record, the end of a search
pub record IsQuiet (pages : ℕ) (actor : Actor) (seen : Seen) : Type 0 where
  pub actors : (k : ℕ) → actor ≡ Session k → ⊥
  pub seens : (k : ℕ) (his other : List Seen) → of_session actor k his other ≡ other
  pub none : lsn_in seen ≡ 0
  pub change : (history : History) → TellsChange history 0 seen None
  pub last : EndsSearch pages seen → ⊥
  pub order : (order : List ℕ) → ordered_with seen 0 order ≡ order

pub rest_is_quiet : {pages : ℕ} (s : State) (actor : Actor) (seen : Seen) → MayRest s actor seen → IsQuiet pages actor seen
rest_is_quiet s actor seen may = grind (arith, nat_tests)

-- an event of no session
event_says : (trace : List Event) (e : Event) (logged : Option Act) (s : State) → ((k : ℕ) (his other : List Seen) → of_session e.actor k his other ≡ other)
    → ((txn : ℕ) → pending_of (logging logged s.history) txn ≡ pending_of s.history txn) → AllSay trace s
    → AllSay (e ∷ trace) (record s { history = logging logged s.history })
event_says trace e logged s none pending all j = grind (arith, nat_tests, none, still_says)

-- So each session's stage says it in each run.
pub run_says : (m : Machine) → IsRun m → AllSay m.trace m.state
run_says = kept_along (λ o trace s. AllSay trace s) (record {
  base = λ o is k. subst (SaysOf [] o.history k) (sym (seat_empty o.sessions k)) tt;
  turn = λ m k turn run all moves. turn_says (setting_of m).format (setting_of m).pages m.trace m.state k turn (run_kept m run) moves.0.among moves.0.may all;
  close = λ m k run all among closes. each_seat (SaysOf m.trace m.state.history) m.state.seats k (staged (seat_of m k) idle) among tt (λ j not. all j);
  append = λ m l run all moves. event_says m.trace (append_event l) (Some (marks (lists l))) m.state (λ k a b. refl) (λ txn. refl) all;
  rest = λ m actor seen run all may.
      event_says m.trace (rest_event actor seen) None m.state (rest_is_quiet {pages = (setting_of m).pages} m.state actor seen may).seens (λ txn. refl) all;
})

-- what those outcomes tell: each page was handled, what the slot holds, the commit record is durable
abbrev pub Told : ℕ → History → List Seen → List Event → ℕ → Option Outcome → Type 0
Told pages history seens trace txn (Some (no_space row)) = AllHandled seens pages
Told pages history seens trace txn (Some (saw rid slot)) = slot ≡ slot_at (page_of history rid.page) rid.slot
Told pages history seens trace txn (Some committed) = IsDurable history trace txn
Told pages history seens trace txn other = Unit {0}

module _ (format : Format) (pages : ℕ) (s : State) (k : ℕ) (seat : Seat) (seens : List Seen) (trace : List Event) where
  abbrev TellsIt : Turn → ℕ → Option Outcome → Type 0
  TellsIt turn txn done = Told pages (after format s k seat turn).history (seen_of pages s seat turn ∷ seens) (event_at pages s k seat turn ∷ trace) txn done

  pub turn_told : (turn : Turn) → May format pages s k seat turn → Says seens trace s.history seat.txn seat.stage → TellsIt turn (txn_of seat turn) (outcome_of turn)
  turn_told turn may says = grind (arith, nat_tests)

-- where no page is left, it is told that there is no space
pub ends_told : (format : Format) (pages : ℕ) (s : State) (k : ℕ) (seat : Seat) (turn : Turn) → May format pages s k seat turn
    → EndsSearch pages (seen_of pages s seat turn) → (row : List ℕ) × (outcome_of turn ≡ Some (no_space row))
ends_told format pages s k seat (scan_last row from) may last = (row, refl)
ends_told format pages s k seat (try_last row page slot) may last = (row, refl)
ends_told format pages s k seat turn may last = absurd (grind (arith, nat_tests))
