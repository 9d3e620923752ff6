use Rattle.std.proofs.Common.{drop}
use Rattle.std.proofs.lemmas.Result.{err_from_is_err_and}
use Rattle.rm_wal.proofs.LookupSteps.{is_found, none_there}
use Rattle.rm_wal.proofs.lookups.read_at.Goals as goal

pub returns-in_err-found-clause-damaged : goal.returns-in_err-found-clause-damaged
returns-in_err-found-clause-damaged g c = λ area place modelled.
    let passed = err_from_is_err_and c.from_residual-in_err-found.result c.from_residual-in_err-found.ensures.1 in
    let damaged = c.in_err-found.ensures.damaged area place cc in
    (damaged.0, damaged.1, λ models. none_there c.deref.ensures.value (c.in_ok-bytes.ensures.bytes models) c.deref.ensures.len (c.in_ok-bytes.ensures.enough models) damaged.2)

pub returns-clause-found : goal.returns-clause-found
returns-clause-found g c = λ models. is_found c.in_ok-found.found (drop c.in_ok-found.field-0-1 c.deref.result.now) c.deref.ensures.value (c.in_ok-bytes.ensures.bytes models) c.in_ok-found.ensures.found.2
