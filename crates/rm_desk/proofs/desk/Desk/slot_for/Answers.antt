use Rattle.rm_desk.proofs.Names.{ap, DeskValue}
use Rattle.rm_ops.specs.Views.{seat_of}
use Rattle.rm_desk.proofs.Entries.{slot_is}
use Rattle.rm_desk.proofs.desk.Desk.slot_for.Goals as goal

pub returns : goal.returns
returns c =
    slot_is c.args.self.now.view.state (seat_of c.args.self.now.view c.args.k) _ _
    (rw (ap (λ (d : DeskValue). d.view.state.grants) c.self.view_is, c.id.ensures, c.requires.page) at c.slot_for.ensures)
