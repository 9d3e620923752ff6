use Rattle.std.proofs.Common.{arith}
use Rattle.rm_record.proofs.Decoding.{rest_within, found_is, prefix_is, bad_is}
use Rattle.rm_record.proofs.records.LogRecord.decode.Goals as goal

pub overflow_sub-result : goal.overflow_sub-result
overflow_sub-result c = rest_within c.args.bytes.now _ (λ k. omega (arith, c.type_inv.bytes k)) c.in-Ok.ensures

pub returns-in-Ok-clause-found : goal.returns-in-Ok-clause-found
returns-in-Ok-clause-found c = found_is c.args.bytes.now _ (λ k. omega (arith, c.type_inv.bytes k)) c.in-Ok.ensures

pub returns-in-Ok-clause-prefix : goal.returns-in-Ok-clause-prefix
returns-in-Ok-clause-prefix c = prefix_is c.args.bytes.now _ (λ k. omega (arith, c.type_inv.bytes k)) c.in-Ok.ensures

pub returns-in-Err-clause-bad : goal.returns-in-Err-clause-bad
returns-in-Err-clause-bad c = bad_is c.in-Err.refused c.args.bytes.now c.in-Err.ensures
