use Rattle.std.specs.Prelude.{◌+◌}
use Rattle.rm_core.specs.Below.{newest_lsn}
use Rattle.rm_core.proofs.Names.{arith, last_is_unfinished, undoes_are_in_order}
use Rattle.rm_core.proofs.Runs.{run_in_order}
use Rattle.rm_core.proofs.laws.undo_has_space.Goals as goal

-- what fits does not depend on the LSN of the compensation
pub returns : goal.returns
returns c = λ m txn lsn last run is.
    let ordered = run_in_order m run in
    (undoes_are_in_order m.state.history txn (newest_lsn m.state.history + 1) last is.0 ordered
    (last_is_unfinished m.state.history ordered txn last is.0 is.1) is.1 (omega arith)).1.fits
