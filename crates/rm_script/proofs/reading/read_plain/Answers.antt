use Rattle.std.proofs.Common.{◌≡◌, ◌<◌, length, arith}
use Rattle.std.proofs.lemmas.Bool.Decides.{nat_tests}
use Rattle.std.proofs.lemmas.List.{nil_from_length}
use Rattle.rm_script.proofs.PlainRead.{all_lines, first_other}
use Rattle.rm_script.proofs.reading.read_plain.Goals as goal

pub returns-then-is_empty-clause-lines : goal.returns-then-is_empty-clause-lines
returns-then-is_empty-clause-lines c =
    let none : length c.in_ok-lines.rest.now ≡ 0 = grind (arith, nat_tests, c.if-is_empty.ensures) in
    (c.in_ok-count.ensures.within, all_lines c.in_ok-lines.lines.items c.args.bytes.now c.in_ok-lines.rest.now c.in_ok-lines.ensures.read (nil_from_length c.in_ok-lines.rest.now none))

pub returns-clause-refused : goal.returns-clause-refused
returns-clause-refused c =
    let some : 0 < length c.in_ok-lines.rest.now = grind (arith, nat_tests, c.if-is_empty.ensures) in
    (c.in_ok-count.ensures.within, first_other c.in_ok-lines.lines.items c.args.bytes.now c.in_ok-lines.rest.now _ c.in_ok-lines.ensures.read c.in_ok-lines.ensures.stops some (omega (arith, c.line_count.ensures, c.in_ok-count.ensures.counts)))
