use Rattle.std.proofs.Common.{ℕ, ◌-◌, Some, refl, arith}
use Rattle.rm_need.specs.Needs.{need_in}
use Rattle.rm_need.specs.Totals.{total_of}
use Rattle.rm_need.proofs.TotalLaws.{need_within, rest_is, keeps_totals}
use Rattle.rm_need.proofs.Needs.ready.Goals as goal

pub invariant_of-self-2 : goal.invariant_of-self-2
invariant_of-self-2 c =
    let need : ℕ = need_in c.self.inside.entries.entries c.args.page c.args.txn.0 in
    let total : ℕ = total_of c.self.inside.totals.entries c.args.page in
    let within = need_within c.self.inside.entries.entries c.self.inside.totals.entries c.args.page c.args.txn.0 c.self.invariant (omega arith) in
    keeps_totals c.self.inside.entries c.admit-2.new.map c.self.inside.totals c.admit.new.map _ _ (total - need) total (Some need) c.self.invariant c.in_ok-admit-2.ensures.ok c.in_ok-admit.ensures.ok _ refl (omega arith)
    (rest_is _ _ _ _ c.self.invariant (omega arith)) (omega (arith, within)) (c.self.invariant.bounded c.args.page)
