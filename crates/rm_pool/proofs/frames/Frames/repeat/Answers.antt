use Rattle.std.proofs.Common.{length, sym, ◌∙◌, arith}
use Rattle.rm_pool.proofs.FrameLaws.{frames_with_page, frames_with_block, frames_kept, took_entry, took_none, took_slot}
use Rattle.rm_pool.proofs.frames.Frames.repeat.Goals as goal
use Rattle.rm_pool.proofs.frames.Frames.repeat.Goals.{in-Some+else-page-size+else-category-gt-MAX_CATEGORY, in_default+in-Some-slot_set_by+else-rid-size+in_ok-redo, in_default+in_default-slot_set_by}

pub invariant_of-self-2 : goal.invariant_of-self-2
invariant_of-self-2 c =
    let was = c.self.invariant in
    let after = rw (← c.self.view_is) at c.requires in
    elim c.match-category_entered_by.branch [
      | in-Some+else-page-size+else-category-gt-MAX_CATEGORY w ↦
          let size = rw (← c.self.view_is) at w.size.ensures.value in
          rw (c.of-self-inside.ensures, w.self-inside-is) (frames_with_block _ c.args.what.now c.args.lsn
          (w.in-Some.page, w.in-Some.category) w.redo_inventory.result _ _ _ _ w.index_mut.result.now w.redo_inventory.new.block was after
          w.in-Some.ensures (omega (arith, size)) w.index_mut.ensures.value w.redo_inventory.ensures)
      | in_default+in-Some-slot_set_by+else-rid-size+in_ok-redo w ↦
          let size = rw (← c.self.view_is) at w.size-in-Some-slot_set_by.ensures.value in
          rw (c.of-self-inside.ensures, w.self-inside-is) (frames_with_page _ c.args.what.now c.args.lsn w.in-Some-slot_set_by.rid w.in_ok-redo.field-0 _ _ _ _
          w.index_mut-in-Some-slot_set_by.result.now w.redo.new.page was after (sym c.category_entered_by.ensures ∙ w.in_default.is)
          w.in-Some-slot_set_by.ensures (omega (arith, size)) w.index_mut-in-Some-slot_set_by.ensures.value w.in_ok-redo.ensures.applied)
      | in_default+in_default-slot_set_by w ↦
          rw (c.of-self-inside.ensures, w.self-inside-is) (frames_kept _ c.args.what.now c.args.lsn.0 _ _ _ _ was
          (sym c.category_entered_by.ensures ∙ w.in_default.is) (sym w.slot_set_by.ensures ∙ w.in_default-slot_set_by.is))
    ]

pub returns-clause-takes : goal.returns-clause-takes
returns-clause-takes c =
    let was = c.self.invariant in
    let after = rw (← c.self.view_is) at c.requires in
    elim c.match-category_entered_by.branch [
      | in-Some+else-page-size+else-category-gt-MAX_CATEGORY w ↦
          took_entry c.args.self.now c.args.what.now w.in-Some.page w.in-Some.category (sym w.in-Some.ensures)
          (omega (arith, w.size.ensures.value)) (omega arith)
      | in_default+in-Some-slot_set_by+else-rid-size+in_ok-redo w ↦
          let size = rw (← c.self.view_is) at w.size-in-Some-slot_set_by.ensures.value in
          let it = c.self.inside in
          rw (← c.self.view_is) (took_slot (record { applied = it.applied; size = length it.pages.items; page = it.page; block = it.block }) c.args.what.now c.args.lsn w.in-Some-slot_set_by.rid w.in_ok-redo.field-0 c.self.inside.pages.items
          w.index_mut-in-Some-slot_set_by.result.now w.redo.new.page was.each_page after
          (sym c.category_entered_by.ensures ∙ w.in_default.is) w.in-Some-slot_set_by.ensures (omega (arith, size))
          (omega (arith, size)) w.index_mut-in-Some-slot_set_by.ensures.value w.in_ok-redo.ensures.applied)
      | in_default+in_default-slot_set_by w ↦
          took_none c.args.self.now c.args.what.now (sym c.category_entered_by.ensures ∙ w.in_default.is) (sym w.slot_set_by.ensures ∙ w.in_default-slot_set_by.is)
    ]
