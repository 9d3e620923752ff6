use Rattle.std.proofs.Common.{arith}
use Rattle.rm_script.proofs.LinesRead.{HasRead-more, stops_here, turns_more}
use Rattle.rm_script.proofs.reading.read_turn_lines.Goals as goal

pub returns-then-not-branch-clause-stops : goal.returns-then-not-branch-clause-stops
returns-then-not-branch-clause-stops c =
    let none = rw c.if-not-branch.true at c.in_ok-push_turn_line.ensures in
    stops_here _ c.in-Some.text.now _ _ c.in-Some.ensures.some (λ some. none.1 some.0 some.1)

pub loop-text-preserved : goal.loop-text-preserved
loop-text-preserved c =
    let put = rw c.if-not-branch.false at c.in_ok-push_turn_line.ensures in
    record {
      read = HasRead-more _ _ c.args.bytes.now c.loop-text.rest.now c.in-Some.text.now c.in-Some.after.now c.loop-text.invariant.read c.in-Some.ensures.some (λ right h. rw put.2 (turns_more c.args.sessions put.0 c.in-Some.text.now put.1 c.loop-text.words.items right h));
      shorter = omega (arith, c.in-Some.ensures.shorter, c.loop-text.invariant.shorter);
    }
