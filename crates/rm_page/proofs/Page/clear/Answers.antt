use Rattle.std.proofs.Common.{arith, rules}
use Rattle.rm_types.specs.declared.slots.Slot.TheVariants.{Vacant}
use Rattle.rm_model.proofs.Slots.{used-set_slot}
use Rattle.rm_page.proofs.Keeping.{kept_with_vacant}
use Rattle.rm_page.proofs.Page.clear.Goals as goal

pub overflow_cast-self : goal.overflow_cast-self
overflow_cast-self c =
    let now = rw c.deref.ensures.value at c.used_beside.ensures.value Vacant in
    let requires = rw (← c.self.view_is) at c.requires in
    omega (arith, now, used-set_slot c.self.inside.slots.items c.args.slot Vacant)

pub invariant_of-self : goal.invariant_of-self
invariant_of-self c =
    rw (c.put.ensures.items, c.min-self-inside.ensures, c.put.ensures.capacity) (kept_with_vacant c.self.inside.slots.items c.args.slot c.self.inside.used c.self.inside.vacant _ c.used_beside.result (search rules) c.self.invariant (search rules))
