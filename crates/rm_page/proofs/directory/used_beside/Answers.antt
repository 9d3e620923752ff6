use Rattle.std.proofs.Common.{arith}
use Rattle.rm_model.proofs.Slots.{used-set_slot, row_length-le-used}
use Rattle.rm_page.proofs.directory.used_beside.Goals as goal

pub returns-clause-value : goal.returns-clause-value
returns-clause-value c slot =
    omega (arith, used-set_slot c.args.slots.now c.args.number slot, row_length-le-used c.args.slots.now c.args.number)
