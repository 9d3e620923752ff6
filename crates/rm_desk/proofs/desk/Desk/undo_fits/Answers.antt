use Rattle.rm_desk.proofs.Rooms.{undo_fits_is}
use Rattle.rm_desk.proofs.Names.{sym, ◌∙◌}
use Rattle.rm_desk.proofs.desk.Desk.undo_fits.Goals as goal

pub returns-in-Some : goal.returns-in-Some
returns-in-Some c =
    undo_fits_is c.args.self.now.view.state.history _ c.in-Some.last _ _ _ _ (sym c.in-Some.is ∙ c.pending.ensures.value) c.requires.page c.used_with-used.ensures.value
    (rw c.id.ensures at c.others.ensures) c.is_within.ensures
