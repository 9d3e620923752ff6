use Rattle.std.proofs.Common.{◌≡◌, ◌∙◌, length}
use Rattle.std.proofs.lemmas.Result.{err_from_is_err_and}
use Rattle.rm_wal.proofs.BatchSteps.{shows_before, batch_is_wrong, open_on}
use Rattle.rm_wal.proofs.reading.read_batch.Goals as goal

pub returns-in_err-len-clause-damaged : goal.returns-in_err-len-clause-damaged
returns-in_err-len-clause-damaged g c = λ area at modelled.
    let passed = err_from_is_err_and c.from_residual.result c.from_residual.ensures.1 in
    c.in_err-len.ensures.damaged area at cc

pub returns-in_err-read_records-clause-damaged : goal.returns-in_err-read_records-clause-damaged
returns-in_err-read_records-clause-damaged g c = λ area at modelled.
    let passed = err_from_is_err_and c.from_residual-in_err-read_records.result c.from_residual-in_err-read_records.ensures.1 in
    let damaged = c.in_err-read_records.ensures.damaged area at cc in
    let opened = rw c.in-Some.is at c.in_ok-len.ensures.found in
    let long : length c.deref.result.now ≡ c.in-Some.len = c.deref.ensures.len ∙ c.in_ok-body.ensures.len in
    (damaged.0, batch_is_wrong (open_on c.read_bytes.ensures.reads.0.modelled opened) (λ models. shows_before c.read_header.ensures.reads.0.content c.deref.ensures.value (c.in_ok-body.ensures.bytes models)) long damaged.1)
