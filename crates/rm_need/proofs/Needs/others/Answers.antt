use Rattle.std.proofs.Common.{arith}
use Rattle.rm_need.proofs.TotalLaws.{seen_totals, need_within, rest_is}
use Rattle.rm_need.proofs.Needs.others.Goals as goal

pub overflow_sub-total : goal.overflow_sub-total
overflow_sub-total c =
    let within = need_within _ _ c.args.page c.args.txn.0 c.self.invariant (omega arith) in grind (arith, within)

pub returns-clause-bound : goal.returns-clause-bound
returns-clause-bound c =
    let within = need_within _ _ c.args.page c.args.txn.0 c.self.invariant (omega arith) in grind (arith, within, c.self.invariant.bounded c.args.page)

pub returns-clause-sum : goal.returns-clause-sum
returns-clause-sum c = λ n none.
    let is = rest_is c.args.self.now _ c.args.page c.args.txn.0 (seen_totals _ _ _ c.self.view_is c.self.invariant) (omega arith) n none in
    grind (arith, is)
