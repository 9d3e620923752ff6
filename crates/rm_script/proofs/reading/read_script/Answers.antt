use Rattle.std.proofs.Common.{◌≡◌, ◌<◌, length, arith}
use Rattle.std.proofs.lemmas.Bool.Decides.{nat_tests}
use Rattle.std.proofs.lemmas.List.{nil_from_length}
use Rattle.rm_script.specs.Grammar.{lines_in}
use Rattle.rm_script.proofs.ScriptRead.{all_read, first_wrong}
use Rattle.rm_script.proofs.reading.read_script.Goals as goal

pub returns-then-is_empty-clause-script : goal.returns-then-is_empty-clause-script
returns-then-is_empty-clause-script c =
    let none : length c.in_ok-words.rest.now ≡ 0 = grind (arith, nat_tests, c.if-is_empty.ensures) in
    let count : c.len.result ≡ length c.in_ok-sessions.sessions.items = omega (arith, c.len.ensures) in
    (c.in_ok-count.ensures.within, all_read _ (lines_in c.in_ok-sessions.sessions.items) c.in_ok-words.words.items c.args.bytes.now c.in_ok-sessions.rest.now c.in_ok-words.rest.now c.in_ok-sessions.ensures.read (rw count at c.in_ok-words.ensures.read) (nil_from_length c.in_ok-words.rest.now none))

pub returns-clause-refused : goal.returns-clause-refused
returns-clause-refused c =
    let some : 0 < length c.in_ok-words.rest.now = grind (arith, nat_tests, c.if-is_empty.ensures) in
    let count : c.len.result ≡ length c.in_ok-sessions.sessions.items = omega (arith, c.len.ensures) in
    (c.in_ok-count.ensures.within, first_wrong _ (lines_in c.in_ok-sessions.sessions.items) c.in_ok-words.words.items c.args.bytes.now c.in_ok-sessions.rest.now c.in_ok-words.rest.now _ c.in_ok-sessions.ensures.read c.in_ok-sessions.ensures.stops (rw count at c.in_ok-words.ensures.read) some (omega (arith, c.line_count.ensures, c.in_ok-count.ensures.counts)))
