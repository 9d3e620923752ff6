use Rattle.rm_need.proofs.TotalLaws.{no_totals}
use Rattle.rm_need.proofs.Needs.new.Goals as goal

pub invariant_of-result : goal.invariant_of-result
invariant_of-result c = no_totals _ _ c.new.ensures.empty c.new-2.ensures.empty
