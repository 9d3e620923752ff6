use Rattle.std.specs.Prelude.{◌≡◌}
use Rattle.rm_types.specs.declared.areas.Area.{Area}
use Rattle.rm_calls.specs.Calls.{is_lost}
use Rattle.rm_calls.specs.Steps.{Writes}
use Rattle.rm_calls.proofs.reading.write_unless.Given as goal

-- the calls that were interrupted wrote some of the bytes at most, and lost no area
abbrev pub invariant-loop : goal.invariant-loop
invariant-loop g l = record {
  writes : Writes g.S.Start.image l.area l.at l.from (g.C.Calls.history l.initial.calls) (g.C.Calls.history l.calls);
  lost : (other : Area) → is_lost (g.C.Calls.history l.calls) other ≡ is_lost (g.C.Calls.history l.initial.calls) other;
}
