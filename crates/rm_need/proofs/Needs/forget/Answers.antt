use Rattle.std.proofs.Common.{None, arith}
use Rattle.rm_need.proofs.TotalLaws.{keeps_totals}
use Rattle.rm_need.proofs.Needs.forget.Goals as goal

pub invariant_of-self : goal.invariant_of-self
invariant_of-self c =
    keeps_totals c.self.inside.entries c.remove.new.self c.self.inside.totals c.write.new.map _ _ c.others-total.result _ None c.self.invariant c.remove.ensures.updates c.write.ensures _ c.self.view_is
    (omega arith) c.others-total.ensures.sum (omega arith) (omega (arith, c.others-total.ensures.bound))
