use Rattle.std.proofs.Common.{arith}
use Rattle.rm_wal.proofs.BatchSteps.{header_is_read, header_is_wrong}
use Rattle.rm_wal.proofs.reading.read_header.Goals as goal

pub returns-clause-found : goal.returns-clause-found
returns-clause-found g c = header_is_read c.length_of.result (omega arith) c.in_ok-read_area.ensures.bytes c.length_of.ensures.closed c.length_of.ensures.opened

pub returns-clause-damaged : goal.returns-clause-damaged
returns-clause-damaged g c = λ area at modelled.
    let damaged = c.length_of.ensures.damaged area at modelled in
    (damaged.0, λ models. header_is_wrong damaged.1 (c.in_ok-read_area.ensures.bytes models))
