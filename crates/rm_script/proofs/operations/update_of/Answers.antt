use Rattle.rm_script.proofs.OperationLaws.{no_update_space, no_update_target, no_update_row}
use Rattle.rm_script.proofs.operations.update_of.Goals as goal

pub returns-in_default-clause-none : goal.returns-in_default-clause-none
returns-in_default-clause-none c = no_update_space c.args.text.now c.in_default.ensures.none

pub returns-in_default-target_of-clause-none : goal.returns-in_default-target_of-clause-none
returns-in_default-target_of-clause-none c = no_update_target c.args.text.now _ _ c.in-Some.ensures.some c.in_default-target_of.ensures.none

pub returns-in_default-2-clause-none : goal.returns-in_default-2-clause-none
returns-in_default-2-clause-none c = no_update_row c.args.text.now _ _ c.in-Some.ensures.some (rw c.in_default-2.is at c.in_ok-row.ensures.none)
