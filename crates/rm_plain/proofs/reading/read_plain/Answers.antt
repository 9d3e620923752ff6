use Rattle.std.proofs.Common.{◌+◌, ◌<◌, length, arith}
use Rattle.std.proofs.lemmas.Bool.Decides.{nat_tests}
use Rattle.rm_plain.proofs.FirstLines.{first_wrong}
use Rattle.rm_plain.proofs.reading.read_plain.Goals as goal

pub returns-then-not-is_empty-clause-refused : goal.returns-then-not-is_empty-clause-refused
returns-then-not-is_empty-clause-refused c =
    let some : 0 < length c.in_ok-lines.rest.now = grind (arith, nat_tests, c.if-not-is_empty.ensures) in
    (c.in_ok-count.ensures.within, first_wrong c.args.bytes.now c.in_ok-lines.lines.items c.in_ok-lines.rest.now (c.len.result + 1) c.in_ok-lines.ensures.read c.in_ok-lines.ensures.stops some (omega (arith, c.len.ensures)))
