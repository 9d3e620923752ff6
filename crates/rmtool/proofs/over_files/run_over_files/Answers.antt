use Rattle.rmtool.proofs.over_files.run_over_files.Goals as goal

pub returns-clause-answers : goal.returns-clause-answers
returns-clause-answers g c =
    let first = c.in_ok-volume.ensures in
    rw (first.fresh, first.faults, first.reads.0, first.reads.1) at c.run_command-status.ensures.answers

pub returns-clause-complete : goal.returns-clause-complete
returns-clause-complete g c =
    let first = c.in_ok-volume.ensures in
    rw (first.fresh, first.faults, first.reads.0, first.reads.1) at c.run_command-status.ensures.complete
