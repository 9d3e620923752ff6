-- What a run adds to the log that it opened: records of transactions on pages of the file, and the commits of its trace.
use Rattle.std.specs.Prelude.{◌≡◌, ℕ, ◌<◌, List, [], ◌∷◌, ◌++◌, Option, Some, None}
use Rattle.std.specs.List.{AllByRecursion}
use Rattle.rm_types.specs.declared.formats.Format.{Format}
use Rattle.rm_history.specs.Batched.{AreBelow}
use Rattle.rm_core.specs.Below.{Act, History, lists, marks}
use Rattle.rm_core.specs.Names.{effect, logging, staged, after, Event, event_of, May, Machine, IsRun, Opening, order_of, Stage, idle}
use Rattle.rm_core.specs.Names.{wants, tries, alters, sets, settles, Seat, State, seat_at, Turn, insert, alter, settle, commit, prepare, compensate, end}
use Rattle.rm_core.proofs.Names.{nat_tests, arith, refl, sym, ap, subst, ◌∙◌}
use Rattle.rm_core.proofs.Runs.{kept_along, seat_of, setting_of, seat_empty, each_seat}
use Rattle.rm_core.proofs.Stages.{rest_is_quiet}
use Rattle.rm_image.specs.ImageLaws.{IsOfTxn}
use Rattle.rm_crash.specs.Crashes.{TellsNoCheckpoint}
use Rattle.rm_crash.proofs.Cuts.{committed_in}
use Rattle.rm_crash.proofs.Steps.{last_below}

-- the page that a stage will change, or has changed, is one of the file
abbrev Within : ℕ → Stage → Type 0
Within pages (wants row on) = on < pages
Within pages (tries row on) = on < pages
Within pages (alters rid slot) = rid.page < pages
Within pages (sets rid slot) = rid.page < pages
Within pages (settles outcome on) = on < pages
Within pages other = Unit {0}

turn_within : (format : Format) (pages : ℕ) (s : State) (k : ℕ) (seat : Seat) (turn : Turn) → Within pages seat.stage → May format pages s k seat turn
    → Within pages (effect format s seat turn).seat.stage
turn_within format pages s k seat turn within may = grind (arith, nat_tests)

module _ (format : Format) (pages : ℕ) (s : State) (k : ℕ) (seat : Seat) where
  turn_below : (turn : Turn) → Within pages seat.stage → May format pages s k seat turn → AreBelow pages s.history
      → AreBelow pages (after format s k seat turn).history
  turn_below (insert row rid lsn) within may below = (rw may.at at within, below)
  turn_below (alter rid slot lsn) within may below = (rw may.at at within, below)
  turn_below (settle outcome page lsn) within may below = (rw may.at at within, below)
  turn_below (commit lsn) within may below = (tt, below)
  turn_below (prepare aim last lsn) within may below = (last_below pages s.history seat.txn last may.next.0 below may.next.1, below)
  turn_below (compensate aim last lsn) within may below = (last_below pages s.history seat.txn last may.1.0 below may.1.1, below)
  turn_below (end outcome lsn) within may below = (tt, below)
  turn_below other within may below = below

  turn_of_txn : (turn : Turn) (past : History) → AllByRecursion IsOfTxn past → AllByRecursion IsOfTxn (logging (effect format s seat turn).logged past)
  turn_of_txn (insert row rid lsn) past all = (tt, all)
  turn_of_txn (alter rid slot lsn) past all = (tt, all)
  turn_of_txn (settle outcome page lsn) past all = (tt, all)
  turn_of_txn (commit lsn) past all = (tt, all)
  turn_of_txn (prepare aim last lsn) past all = (tt, all)
  turn_of_txn (compensate aim last lsn) past all = (tt, all)
  turn_of_txn (end outcome lsn) past all = (tt, all)
  turn_of_txn other past all = all

turn_order : (format : Format) (pages : ℕ) (s : State) (k : ℕ) (turn : Turn) (trace : List Event) (past : History) → order_of trace ≡ committed_in past
    → order_of (event_of pages s k turn ∷ trace) ≡ committed_in (logging (effect format s (seat_at s.seats k) turn).logged past)
turn_order format pages s k (commit lsn) trace past is = ap (λ (l : List ℕ). (seat_at s.seats k).txn ∷ l) is
turn_order format pages s k other trace past is = is

logged_past : (logged : Option Act) (history past start : History) → history ≡ past ++ start → logging logged history ≡ logging logged past ++ start
logged_past None history past start is = is
logged_past (Some act) history past start is = ap (λ (h : History). act ∷ h) is

-- What it has added.
pub record Added (o : Opening) (trace : List Event) (s : State) : Type 0 where
  pub past : History
  pub is : s.history ≡ past ++ o.history
  pub order : order_of trace ≡ committed_in past
  pub of_txn : TellsNoCheckpoint trace → AllByRecursion IsOfTxn past
  pub below : AreBelow o.setting.pages o.history → AreBelow o.setting.pages s.history
  pub within : (k : ℕ) → Within o.setting.pages (seat_at s.seats k).stage

pub run_added : (m : Machine) → IsRun m → Added m.opening m.trace m.state
run_added = kept_along Added (record {
  base = λ o is. record {
    past = [];
    is = refl;
    order = refl;
    of_txn = λ none. tt;
    below = λ all. all;
    within = λ k. subst (λ (seat : Seat). Within o.setting.pages seat.stage) (sym (seat_empty o.sessions k)) tt;
  };
  turn = λ m k turn run added moves.
      let format : Format = (setting_of m).format in
      let pages : ℕ = (setting_of m).pages in
      let may = moves.0.may in
      record {
        past = logging (effect format m.state (seat_of m k) turn).logged added.past;
        is = logged_past (effect format m.state (seat_of m k) turn).logged m.state.history added.past m.opening.history added.is;
        order = turn_order format pages m.state k turn m.trace added.past added.order;
        of_txn = λ none. turn_of_txn format pages m.state k (seat_of m k) turn added.past (added.of_txn none.1);
        below = λ all. turn_below format pages m.state k (seat_of m k) turn (added.within k) may (added.below all);
        within = each_seat (λ j seat. Within pages seat.stage) m.state.seats k (effect format m.state (seat_of m k) turn).seat moves.0.among
            (turn_within format pages m.state k (seat_of m k) turn (added.within k) may) (λ j not. added.within j);
      };
  close = λ m k run added among closes. record {
    past = added.past;
    is = added.is;
    order = added.order;
    of_txn = added.of_txn;
    below = added.below;
    within = each_seat (λ j seat. Within (setting_of m).pages seat.stage) m.state.seats k (staged (seat_of m k) idle) among tt (λ j not. added.within j);
  };
  append = λ m l run added moves. record {
    past = marks (lists l) ∷ added.past;
    is = ap (λ (h : History). marks (lists l) ∷ h) added.is;
    order = added.order;
    of_txn = λ none. absurd none.0;
    below = λ all. (tt, added.below all);
    within = added.within;
  };
  rest = λ m actor seen run added may. record {
    past = added.past;
    is = added.is;
    order = (rest_is_quiet {pages = (setting_of m).pages} m.state actor seen may).order (order_of m.trace) ∙ added.order;
    of_txn = λ none. added.of_txn none.1;
    below = added.below;
    within = added.within;
  };
})
