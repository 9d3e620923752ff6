use Rattle.std.proofs.Common.{arith}
use Rattle.std.proofs.lemmas.Bool.Decides.{nat_tests}
use Rattle.rm_script.proofs.LinesOf.{length-lines_of}
use Rattle.rm_script.proofs.lines.line_count.Goals as goal

pub returns-then-last-eq10 : goal.returns-then-last-eq10
returns-then-last-eq10 c =
    let all = length-lines_of c.args.bytes.now in
    let last = c.in-Some.ensures.value in grind (arith, nat_tests)

pub returns-else-last-eq10 : goal.returns-else-last-eq10
returns-else-last-eq10 c =
    let all = length-lines_of c.args.bytes.now in
    let last = c.in-Some.ensures.value in grind (arith, nat_tests)
