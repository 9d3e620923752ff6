use Rattle.std.proofs.Common.{◌+◌, take, ◌∙◌, subst, rules}
use Rattle.std.proofs.lemmas.List.{places}
use Rattle.rm_outside.specs.Images.{Image, Shows}
use Rattle.rm_calls.specs.Replay.{held}
use Rattle.rm_calls.proofs.Fronts.{front_more}
use Rattle.rm_calls.proofs.Steps.{reads_then}
use Rattle.rm_calls.proofs.reading.read_front.Goals as goal

pub loop-done-preserved : goal.loop-done-preserved
loop-done-preserved g c =
    let inv = c.loop-done.invariant in
    let e = c.in_ok-count.ensures in
    let done = c.loop-done.done in
    record {
      within = search (rules, places);
      kept = reads_then inv.kept e.reads;
      front = λ honest here.
          let front = inv.front (e.reads.honest honest) here in
          let piece : Shows (held g.S.Start.image (g.C.Calls.history c.args.calls.now) c.args.area) (c.args.at + done) (take c.in_ok-count.count c.read_piece.new.into) = subst (λ (image : Image). Shows (image c.args.area) (c.args.at + done) (take c.in_ok-count.count c.read_piece.new.into)) inv.kept.content (e.bytes honest (inv.kept.lost c.args.area ∙ here)) in
          front_more (held g.S.Start.image (g.C.Calls.history c.args.calls.now) c.args.area) c.args.at done c.in_ok-count.count c.loop-done.into c.read_piece.new.into inv.within (search (rules, places)) e.bound front piece;
    }
