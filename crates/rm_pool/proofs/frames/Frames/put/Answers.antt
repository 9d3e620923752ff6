use Rattle.std.proofs.Common.{◌∷◌, sym}
use Rattle.rm_history.specs.Acts.{act_at}
use Rattle.rm_pool.proofs.FrameLaws.{frames_after}
use Rattle.rm_pool.proofs.frames.Frames.put.Goals as goal

pub invariant_of-self : goal.invariant_of-self
invariant_of-self c =
    let was = c.self.invariant in
    rw c.of-self-inside.ensures (frames_after c.self.inside.applied (act_at c.args.lsn.0 c.args.what ∷ c.self.inside.applied)
    c.self.inside.pages.items _ c.self.inside.blocks.items _ c.self.inside.page c.self.inside.block c.self.inside.page c.self.inside.block was
    c.set_in.ensures.count c.enter.ensures.count
    (c.set_in.ensures.set c.self.inside.applied c.args.what (sym c.set_of.ensures) was.each_page)
    (c.enter.ensures.entered c.self.inside.applied c.args.what (sym c.category_entered_by.ensures) was.each_block)
    was.page_inside was.block_inside)
