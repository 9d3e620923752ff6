use Rattle.rm_plain.proofs.FirstLines.{HasRead-more}
use Rattle.rm_plain.proofs.reading.read_lines.Goals as goal

pub loop-text-preserved : goal.loop-text-preserved
loop-text-preserved c =
    let said = rw c.in-Some-2.is at c.in_ok-line.ensures.some in
    HasRead-more c.args.bytes.now c.loop-text.lines.items c.push.new.self.items c.loop-text.rest.now c.in-Some.text.now c.in-Some.after.now c.in-Some-2.line c.loop-text.invariant c.in-Some.ensures.some said c.in_ok-push.ensures.items
