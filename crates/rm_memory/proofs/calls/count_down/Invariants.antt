use Rattle.std.proofs.Common.{◌≡◌, ◌-◌, map, take, drop}
use Rattle.rm_memory.proofs.calls.count_down.Given as goal

-- those so far have fallen
abbrev pub invariant-loop-call : goal.invariant-loop-call
invariant-loop-call l = record {
  fallen : take l.call-index l.calls ≡ map (λ n. n - 1) (take l.call-index l.initial.calls);
  rest : drop l.call-index l.calls ≡ drop l.call-index l.initial.calls;
}
