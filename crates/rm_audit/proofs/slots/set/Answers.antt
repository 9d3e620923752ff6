use Rattle.std.proofs.Common.{sym, arith}
use Rattle.rm_model.proofs.Slots.{set_slot_inside}
use Rattle.rm_audit.proofs.slots.set.Goals as goal

pub returns-then-index-len : goal.returns-then-index-len
returns-then-index-len c =
    sym (set_slot_inside c.args.slots.now.items c.args.number c.args.slot (omega arith))
