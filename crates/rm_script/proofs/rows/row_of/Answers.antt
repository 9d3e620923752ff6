use Rattle.std.proofs.Common.{arith}
use Rattle.rm_script.proofs.RowLaws.{no_count, no_byte, unwritten}
use Rattle.rm_script.proofs.rows.row_of.Goals as goal

pub returns-in_default-clause-none : goal.returns-in_default-clause-none
returns-in_default-clause-none c = unwritten c.args.text.now c.written_out.result c.in_default.ensures.none c.written_out.ensures.none

pub returns-in_default-number_within-clause-none : goal.returns-in_default-number_within-clause-none
returns-in_default-number_within-clause-none c = no_count c.args.text.now _ _ c.in-Some.ensures.some (λ n short. c.in_default-number_within.ensures.none n (omega arith) (omega arith))

pub returns-in_default-byte_of-clause-none : goal.returns-in_default-byte_of-clause-none
returns-in_default-byte_of-clause-none c = no_byte c.args.text.now _ _ c.in-Some.ensures.some c.in_default-byte_of.ensures.none
