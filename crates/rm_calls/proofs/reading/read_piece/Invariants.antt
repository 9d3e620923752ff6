use Rattle.rm_calls.specs.Steps.{Reads}
use Rattle.rm_calls.proofs.reading.read_piece.Given as goal

-- the calls that were interrupted read at most
abbrev pub invariant-loop : goal.invariant-loop
invariant-loop g l = Reads g.S.Start.image (g.C.Calls.history l.initial.calls) (g.C.Calls.history l.calls)
