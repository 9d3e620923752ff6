use Rattle.std.proofs.Common.{◌≡◌, ◌<◌, length, arith}
use Rattle.std.proofs.lemmas.Bool.Decides.{nat_tests}
use Rattle.rm_script.proofs.HexRows.{wrong_pair, odd_digit, length_written, length_read, read_out}
use Rattle.rm_script.proofs.rows.written_out.Goals as goal
use Rattle.rm_script.proofs.rows.written_out.Goals.{then-is_empty-via-then-is_empty, then-is_empty-via-else-is_empty+then-text}

pub returns-then-is_empty-clause-none : goal.returns-then-is_empty-clause-none
returns-then-is_empty-clause-none c = λ row w.
    let twice = length_written c.args.text.now row w in
    elim c.then-is_empty.branch [
      | then-is_empty-via-then-is_empty v ↦
          let some = w.nonempty in
          let none : length c.args.text.now ≡ 0 = grind (arith, nat_tests, v.if-is_empty.ensures) in omega (arith, twice, some, none)
      | then-is_empty-via-else-is_empty+then-text v ↦ omega (arith, twice, w.short, v.if-text.true)
    ]

pub returns-in_default-byte_of_pair-clause-none : goal.returns-in_default-byte_of_pair-clause-none
returns-in_default-byte_of_pair-clause-none c = λ row.
    wrong_pair c.args.text.now c.loop-rest.bytes.items c.loop-rest.rest.now row c.loop-rest.invariant.0 c.in-len2-up.len_at_least c.in_default-byte_of_pair.ensures.none

pub returns-then-not-is_empty-clause-none : goal.returns-then-not-is_empty-clause-none
returns-then-not-is_empty-clause-none c = λ row.
    let some : 0 < length c.loop-rest.rest.now = grind (arith, nat_tests, c.if-not-is_empty.ensures) in
    odd_digit c.args.text.now c.loop-rest.bytes.items c.loop-rest.rest.now row c.loop-rest.invariant.0 some c.in_default.len_below

pub new-requires : goal.new-requires
new-requires c = omega (arith, length_read c.args.text.now c.loop-rest.bytes.items c.loop-rest.rest.now c.loop-rest.invariant.0, c.if-text.false)

pub returns-clause-some : goal.returns-clause-some
returns-clause-some c =
    let none : length c.loop-rest.rest.now ≡ 0 = grind (arith, nat_tests, c.if-not-is_empty.ensures) in
    let some : 0 < length c.args.text.now = grind (arith, nat_tests, c.if-is_empty.ensures) in
    read_out c.args.text.now c.loop-rest.bytes.items c.new.result c.loop-rest.rest.now c.loop-rest.invariant.0 c.loop-rest.invariant.1 none some (omega (arith, c.if-text.false)) c.new.ensures
