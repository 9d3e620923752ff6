use Rattle.std.proofs.Common.{List, [], ◌∙◌, sym, ap, arith, ltb}
use Rattle.std.proofs.lemmas.Bool.{le-ltb}
use Rattle.std.proofs.lemmas.List.{drop_all}
use Rattle.rm_memory.specs.declared.notes.Note.{Note}
use Rattle.rm_memory.specs.Notes.{synced_in}
use Rattle.rm_memory.proofs.NoteLemmas.{synced_in-nil, sync_step, other_step}
use Rattle.rm_memory.proofs.syncs.notes_to_sync.Goals as goal
use Rattle.rm_memory.proofs.syncs.notes_to_sync.Goals.{then-is_sync_of, else-is_sync_of}

pub loop-index-init : goal.loop-index-init
loop-index-init c = record {
  short = omega arith;
  each = λ from. ap (λ (ns : List Note). synced_in ns c.args.area) (drop_all from [] (omega arith)) ∙ synced_in-nil c.args.area ∙ sym (le-ltb from 0 (omega arith));
}

pub loop-index-preserved : goal.loop-index-preserved
loop-index-preserved c =
    let so_far = c.loop-index.invariant in
    let note = c.index-notes-index.result in
    elim c.if-is_sync_of.branch [
      | then-is_sync_of w ↦
          record {
            short = omega arith;
            each = λ from. sync_step c.args.notes.now c.loop-index.index c.loop-index.end note c.args.area c.loop-index-test.true c.index-notes-index.is (sym c.is_sync_of.ensures ∙ w.if-is_sync_of.true) so_far.short so_far.each from ∙ ap (ltb from) (sym w.end-is);
          }
      | else-is_sync_of w ↦
          record {
            short = omega arith;
            each = λ from. other_step c.args.notes.now c.loop-index.index c.loop-index.end note c.args.area c.loop-index-test.true c.index-notes-index.is (sym c.is_sync_of.ensures ∙ w.if-is_sync_of.false) so_far.short so_far.each from ∙ ap (ltb from) (sym w.end-is);
          }
    ]
