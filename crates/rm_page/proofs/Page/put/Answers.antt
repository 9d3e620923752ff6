use Rattle.std.proofs.Common.{rules}
use Rattle.rm_page.proofs.Keeping.{kept_with_row}
use Rattle.rm_page.proofs.Page.put.Goals as goal

pub invariant_of-self : goal.invariant_of-self
invariant_of-self c =
    let least = rw (c.deref.ensures.value, c.put.ensures.items, c.widen.ensures.items) at c.vacant_from-self-inside.ensures in
    rw (c.put.ensures.items, c.widen.ensures.items, c.put.ensures.capacity) (
    kept_with_row c.self.inside.slots.items c.args.slot c.self.inside.used c.self.inside.vacant _ c.args.spare c.used_with.result
    c.vacant_from-self-inside.result _ c.args.row c.self.invariant (search rules) (search rules) (search rules) least c.widen.ensures.capacity
    )
