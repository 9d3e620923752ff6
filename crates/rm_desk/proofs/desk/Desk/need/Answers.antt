use Rattle.rm_desk.proofs.Names.{arith}
use Rattle.rm_desk.proofs.Looking.{need_within}
use Rattle.rm_desk.proofs.desk.Desk.need.Goals as goal

pub returns-clause-bound : goal.returns-clause-bound
returns-clause-bound c = let is = need_within _ _ _ c.self.invariant c.args.page c.args.txn.0 in omega (arith, is, c.need.ensures, c.self.invariant.needed c.args.page c.args.txn.0)
