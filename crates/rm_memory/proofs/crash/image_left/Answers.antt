use Rattle.std.proofs.Common.{◌≡◌, ◌≤◌, ◌+◌, Bool, true, false, if◌then◌else◌, ℕ, take, drop, ltb, ap, arith, sym, ◌∙◌}
use Rattle.rm_memory.specs.Areas.{image_of}
use Rattle.rm_memory.specs.Crashes.{unsynced, left}
use Rattle.rm_memory.specs.Notes.{history, synced_in}
use Rattle.rm_memory.proofs.ReplayLemmas.{total_none, unsynced_none, left_none, left_all, piece_fits, total_next, number_next, image_next, total_sync, unsynced_sync, left_sync}
use Rattle.rm_memory.proofs.crash.image_left.Goals as goal
use Rattle.rm_memory.proofs.crash.image_left.Goals.{in-Wrote+in_ok-leave, in_default}

one_at_most : (b : Bool) → (if b then 0 else 1) ≤ 1
one_at_most true = omega arith
one_at_most false = omega arith

pub loop-index-init : goal.loop-index-init
loop-index-init c = record {
  start = total_none;
  few = omega arith;
  number = unsynced_none (synced_in c.args.notes.now);
  image = c.in_ok-image.ensures ∙ left_none c.args.outcome (image_of c.args.base.now) (synced_in c.args.notes.now);
}

pub piece-bytes_put-requires : goal.piece-bytes_put-requires
piece-bytes_put-requires c =
    piece_fits c.args.notes.now c.args.bytes.now c.loop-index.index c.loop-index.start c.index-notes-index.result c.in-Wrote.put c.loop-index-test.true c.index-notes-index.is c.in-Wrote.is c.loop-index.invariant.start c.requires

pub loop-index-preserved : goal.loop-index-preserved
loop-index-preserved c =
    let so_far = c.loop-index.invariant in
    let notes = c.args.notes.now in
    let bytes = c.args.bytes.now in
    let index = c.loop-index.index in
    let start = c.loop-index.start in
    let note = c.index-notes-index.result in
    let inside = c.loop-index-test.true in
    let read = c.index-notes-index.is in
    let base = image_of c.args.base.now in
    elim c.match-note.branch [
      | in-Wrote+in_ok-leave w ↦
          let put = w.in-Wrote.put in
          let told : synced_in (drop index notes) put.area ≡ ltb index w.get.result.now = c.last_syncs-syncs.ensures put.area index ∙ ap (ltb index) (sym w.get.ensures) in
          record {
            start = w.start-is ∙ total_next notes bytes index start note put inside read w.in-Wrote.is so_far.start c.requires;
            few = omega (arith, one_at_most (ltb index w.get.result.now), w.one_unless-number.ensures);
            number = w.number-is ∙ number_next notes bytes index start note put inside read w.in-Wrote.is so_far.start c.requires c.loop-index.number w.one_unless-number.result _ so_far.number told w.one_unless-number.ensures ∙ ap (λ (s : ℕ). unsynced (history (take (index + 1) notes) (take s bytes)) (synced_in (drop (index + 1) notes))) (sym w.start-is);
            image = ap image_of w.image-is
                ∙ image_next notes bytes index start note put inside read w.in-Wrote.is so_far.start c.requires c.args.outcome c.loop-index.number base (image_of c.loop-index.image) (image_of w.leave.new.image) _ w.piece-bytes_put.result.now so_far.number told so_far.image w.piece-bytes_put.ensures.value w.in_ok-leave.ensures
                ∙ ap (λ (s : ℕ). left c.args.outcome base (history (take (index + 1) notes) (take s bytes)) (synced_in (drop (index + 1) notes))) (sym w.start-is);
          }
      | in_default w ↦
          let area = w.in_default.field-0 in
          record {
            start = w.start-is ∙ so_far.start ∙ total_sync notes bytes index start note area inside read w.in_default.is;
            few = omega arith;
            number = w.number-is ∙ so_far.number ∙ unsynced_sync notes bytes index start note area inside read w.in_default.is ∙ ap (λ (s : ℕ). unsynced (history (take (index + 1) notes) (take s bytes)) (synced_in (drop (index + 1) notes))) (sym w.start-is);
            image = ap image_of w.image-is ∙ so_far.image ∙ left_sync notes bytes index start note area inside read w.in_default.is c.args.outcome base ∙ ap (λ (s : ℕ). left c.args.outcome base (history (take (index + 1) notes) (take s bytes)) (synced_in (drop (index + 1) notes))) (sym w.start-is);
          }
    ]

pub returns : goal.returns
returns c =
    let so_far = c.loop-index.invariant in
    so_far.image ∙ left_all c.args.outcome (image_of c.args.base.now) c.args.notes.now c.args.bytes.now c.loop-index.index c.loop-index.start c.loop-index-test.false so_far.start c.requires
