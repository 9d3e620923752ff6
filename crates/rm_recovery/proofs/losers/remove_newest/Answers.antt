use Rattle.std.proofs.Common.{◌≡◌}
use Rattle.std.specs.List.{remove}
use Rattle.rm_recovery.proofs.Tables.{first_removed, none_to_remove, on_some}
use Rattle.rm_recovery.proofs.losers.remove_newest.Goals as goal

pub returns-in-Some : goal.returns-in-Some
returns-in-Some c =
    let first = c.in-Some.ensures.some in
    first_removed c.args.txn.0 c.args.pending.now.items c.remove.new.self.items c.in-Some.index first
    (on_some (c.remove.new.self.items ≡ remove c.args.pending.now.items c.in-Some.index) c.remove.result (c.remove.ensures.variant.1 c.in-Some.ensures.bound) c.remove.ensures.items)

pub returns-in_default : goal.returns-in_default
returns-in_default c = none_to_remove c.args.txn.0 c.args.pending.now.items (rw c.in_default.is at c.newest_of.ensures.none)
