use Rattle.std.proofs.Common.{arith}
use Rattle.rm_calls.proofs.Outcomes.{known_first}
use Rattle.rm_calls.proofs.modelled.Modelled.new.Goals as goal

pub invariant_of-result : goal.invariant_of-result
invariant_of-result g c = record {
  known = λ area. known_first area c.requires (c.all-2.ensures area);
  blamed = λ area some. absurd (omega (arith, some, c.all.ensures area));
}
