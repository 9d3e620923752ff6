use Rattle.std.proofs.Common.{arith}
use Rattle.rm_memory.proofs.CallLemmas.{fallen_more, rest_more}
use Rattle.rm_memory.proofs.calls.count_down.Goals as goal

pub loop-call-preserved : goal.loop-call-preserved
loop-call-preserved c =
    let so_far = c.loop-call.invariant in
    record {
      fallen = fallen_more c.args.calls.now c.loop-call.calls c.loop-call.call-index c.saturating_sub.result (omega arith) (omega arith) c.saturating_sub.ensures so_far.fallen so_far.rest;
      rest = rest_more c.args.calls.now c.loop-call.calls c.loop-call.call-index c.saturating_sub.result so_far.rest;
    }
