use Rattle.std.proofs.Common.{arith}
use Rattle.rm_script.proofs.LinesRead.{HasRead-more, lines_more}
use Rattle.rm_script.proofs.reading.read_lines.Goals as goal

pub loop-text-preserved : goal.loop-text-preserved
loop-text-preserved c =
    let said = rw c.in-Some-2.is at c.in_ok-line.ensures.some in
    record {
      read = HasRead-more _ _ c.args.bytes.now c.loop-text.rest.now c.in-Some.text.now c.in-Some.after.now c.loop-text.invariant.read c.in-Some.ensures.some (lines_more c.loop-text.lines.items c.push.new.self.items c.in-Some-2.line c.in-Some.text.now c.in_ok-push.ensures.items said);
      shorter = omega (arith, c.in-Some.ensures.shorter, c.loop-text.invariant.shorter);
    }
