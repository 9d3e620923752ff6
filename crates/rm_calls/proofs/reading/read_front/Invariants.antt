use Rattle.std.proofs.Common.{◌≤◌, ◌-◌, length, take}
use Rattle.rm_calls.specs.Steps.{Reads, Shown}
use Rattle.rm_calls.proofs.reading.read_front.Given as goal

-- what was read so far stands at the front of the buffer
abbrev pub invariant-loop-done : goal.invariant-loop-done
invariant-loop-done g l = record {
  within : l.done ≤ length l.into;
  kept : Reads g.S.Start.image (g.C.Calls.history l.initial.calls) (g.C.Calls.history l.calls);
  front : Shown g.S.Start.image l.area l.at (take l.done l.into) (g.C.Calls.history l.initial.calls) (g.C.Calls.history l.calls);
}

abbrev pub decreases-loop-done : goal.decreases-loop-done
decreases-loop-done g l = length l.initial.into - l.done
