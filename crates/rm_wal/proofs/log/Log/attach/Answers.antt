use Rattle.std.proofs.lemmas.Result.{err_from_is_err_and}
use Rattle.rm_wal.proofs.log.Log.attach.Goals as goal

pub returns-in_err-records-clause-damaged : goal.returns-in_err-records-clause-damaged
returns-in_err-records-clause-damaged g c = λ area at modelled.
    let passed = err_from_is_err_and c.from_residual.result c.from_residual.ensures.1 in
    c.in_err-records.ensures.damaged area at cc
