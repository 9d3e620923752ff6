use Rattle.rm_desk.proofs.Names.{arith}
use Rattle.rm_model.proofs.Slots.{used-set_slot}
use Rattle.rm_desk.proofs.room.used_with.Goals as goal

pub returns-clause-value : goal.returns-clause-value
returns-clause-value c = λ held is. omega (arith, used-set_slot c.args.page.now.slots c.args.slot held, is, c.held_len.ensures, c.growth_for.ensures.value, c.used.ensures.value, c.from.ensures, c.from-2.ensures, c.from-3.ensures)
