use Rattle.std.proofs.Common.{◌+◌, ◌<◌, ◌≡◌, length, arith, ap}
use Rattle.std.proofs.lemmas.Bool.Decides.{nat_tests}
use Rattle.std.proofs.lemmas.List.{nil_from_length}
use Rattle.rm_script.specs.Lines.{lines_of}
use Rattle.rm_script.proofs.FirstLines.{lines_are_left}
use Rattle.rm_plain.proofs.FirstTurns.{session_read, no_session, no_turns, no_finish, no_end, is_turns}
use Rattle.rm_plain.proofs.reading.read_turns.Goals as goal

pub returns-in_default-clause-refused : goal.returns-in_default-clause-refused
returns-in_default-clause-refused c = (c.in_ok-count.ensures.within, no_session c.args.bytes.now c.in_default.ensures.none)

pub returns-in_default-after_line-clause-refused : goal.returns-in_default-after_line-clause-refused
returns-in_default-after_line-clause-refused c =
    let read = session_read c.args.bytes.now c.in-Some.rest.now c.in_ok-lines.rest.now c.in_ok-lines.lines.items c.in-Some.ensures.some c.in_ok-lines.ensures.read in
    (c.in_ok-count.ensures.within, no_turns c.args.bytes.now c.in_ok-lines.lines.items _ (c.len-number.result + 2) read c.in_ok-lines.ensures.stops c.in_default-after_line.ensures.none (omega (arith, c.len-number.ensures)))

pub returns-in_default-after_line-2-clause-refused : goal.returns-in_default-after_line-2-clause-refused
returns-in_default-after_line-2-clause-refused c =
    let read = session_read c.args.bytes.now c.in-Some.rest.now c.in_ok-lines.rest.now c.in_ok-lines.lines.items c.in-Some.ensures.some c.in_ok-lines.ensures.read in
    (c.in_ok-count.ensures.within, no_finish c.args.bytes.now c.in_ok-lines.lines.items _ _ (c.len-number.result + 3) read c.in-Some-after_line.ensures.some c.in_default-after_line-2.ensures.none (omega (arith, c.len-number.ensures)))

pub returns-then-not-is_empty-clause-refused : goal.returns-then-not-is_empty-clause-refused
returns-then-not-is_empty-clause-refused c =
    let read = session_read c.args.bytes.now c.in-Some.rest.now c.in_ok-lines.rest.now c.in_ok-lines.lines.items c.in-Some.ensures.some c.in_ok-lines.ensures.read in
    let some : 0 < length c.in-Some-after_line-2.rest.now = grind (arith, nat_tests, c.if-not-is_empty.ensures) in
    (c.in_ok-count.ensures.within, no_end c.args.bytes.now c.in_ok-lines.lines.items _ _ _ (c.len-number.result + 4) read c.in-Some-after_line.ensures.some c.in-Some-after_line-2.ensures.some (lines_are_left c.in-Some-after_line-2.rest.now some) (omega (arith, c.len-number.ensures)))

pub returns-clause-turns : goal.returns-clause-turns
returns-clause-turns c =
    let read = session_read c.args.bytes.now c.in-Some.rest.now c.in_ok-lines.rest.now c.in_ok-lines.lines.items c.in-Some.ensures.some c.in_ok-lines.ensures.read in
    let none : length c.in-Some-after_line-2.rest.now ≡ 0 = grind (arith, nat_tests, c.if-not-is_empty.ensures) in
    (c.in_ok-count.ensures.within, is_turns c.args.bytes.now c.in_ok-lines.lines.items _ _ _ read c.in-Some-after_line.ensures.some c.in-Some-after_line-2.ensures.some (ap lines_of (nil_from_length c.in-Some-after_line-2.rest.now none)))
