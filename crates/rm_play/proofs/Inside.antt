-- What holds of each run beside what is kept: an insert's page is one of the file, and the next id is at most 2 ^ 32.
use Rattle.std.specs.Prelude.{ℕ, length, ◌^◌, ◌<◌, ◌≤◌}
use Rattle.rm_core.specs.Below.{Format}
use Rattle.rm_core.specs.Names.{Effect, effect, goes_to, staged, with_effect, May, Machine, IsRun, Stage, idle, wants, tries, Seat, State, seat_at, Turn}
use Rattle.rm_core.proofs.Names.{nat_tests, sym, subst, arith}
use Rattle.rm_core.proofs.Runs.{each_seat, kept_along, seat_of, setting_of, seat_empty}

abbrev pub Within : ℕ → Stage → Type 0
Within pages (wants row on) = on < pages
Within pages (tries row on) = on < pages
Within pages other = Unit {0}

pub record Inside (pages : ℕ) (s : State) : Type 0 where
  pub within : (k : ℕ) → Within pages (seat_at s.seats k).stage
  pub ids : s.next ≤ 2 ^ 32

turn_inside : (format : Format) (pages : ℕ) (s : State) (k : ℕ) (seat : Seat) (turn : Turn) → Within pages seat.stage → s.next ≤ 2 ^ 32
    → May format pages s k seat turn → Within pages (effect format s seat turn).seat.stage × ((effect format s seat turn).next ≤ 2 ^ 32)
turn_inside format pages s k seat turn within ids may = grind (arith, nat_tests)

effect_inside : (pages : ℕ) (s : State) (k : ℕ) (e : Effect) → Inside pages s → k < length s.seats → Within pages e.seat.stage × (e.next ≤ 2 ^ 32)
    → Inside pages (with_effect s k e)
effect_inside pages s k e is among mine =
    record { within = each_seat (λ j seat. Within pages seat.stage) s.seats k e.seat among mine.0 (λ j not. is.within j); ids = mine.1 }

pub run_inside : (m : Machine) → IsRun m → Inside m.opening.setting.pages m.state
run_inside = kept_along (λ o trace s. Inside o.setting.pages s) (record {
  base = λ o is. record { within = λ k. subst (λ (seat : Seat). Within o.setting.pages seat.stage) (sym (seat_empty o.sessions k)) tt; ids = is.ids };
  turn = λ m k turn run is moves. effect_inside (setting_of m).pages m.state k _ is moves.0.among
      (turn_inside (setting_of m).format (setting_of m).pages m.state k (seat_of m k) turn (is.within k) is.ids moves.0.may);
  close = λ m k run is among closes. effect_inside (setting_of m).pages m.state k (goes_to m.state (staged (seat_of m k) idle)) is among (tt, is.ids);
  append = λ m l run is moves. record { within = is.within; ids = is.ids };
  rest = λ m actor seen run is may. is;
})
