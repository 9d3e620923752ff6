use Rattle.std.proofs.Common.{sym, subst}
use Rattle.rm_model.specs.Pages.{PageValue}
use Rattle.rm_apply.specs.Redo.{CannotHave}
use Rattle.rm_pool.specs.Frames.{MaySet}
use Rattle.rm_pool.proofs.frames.set_in.Goals as goal

pub set-requires-clause-fits : goal.set-requires-clause-fits
set-requires-clause-fits c =
    let may : MaySet c.args.pages.now.items c.args.spare (c.in-Some.rid, c.in-Some.slot) = rw c.in-Some.is at c.requires in
    subst (λ (page : PageValue). CannotHave page.slots c.in-Some.rid.slot c.in-Some.slot → ⊥) (sym c.index_mut.ensures.value) (may.1 c.index_mut.result.now).0
