use Rattle.std.proofs.Common.{◌<◌, length, refl, arith}
use Rattle.std.proofs.lemmas.Bool.Decides.{nat_tests}
use Rattle.rm_script.proofs.FirstLines.{first_parts}
use Rattle.rm_script.proofs.lines.first_line.Goals as goal

pub returns-clause-some : goal.returns-clause-some
returns-clause-some c =
    let some : 0 < length c.args.bytes.now = grind (arith, nat_tests, c.if-is_empty.ensures) in
    first_parts c.args.bytes.now c.cut.result _ c.unwrap_or.result c.unwrap_or.ensures some c.cut.ensures.some c.cut.ensures.none refl refl
