use Rattle.rm_script.proofs.TargetLaws.{no_rid, no_name}
use Rattle.rm_script.proofs.fields.target_of.Goals as goal

pub returns-in_err-rid_of-in-Some-clause-none : goal.returns-in_err-rid_of-in-Some-clause-none
returns-in_err-rid_of-in-Some-clause-none c = rw c.from_residual.ensures
    (no_rid c.args.text.now c.in-Some.page.now c.in-Some.slot.now c.in-Some.ensures.some c.in_err-rid_of-in-Some.ensures.none)

pub returns-in_err-name_of-in-None-clause-none : goal.returns-in_err-name_of-in-None-clause-none
returns-in_err-name_of-in-None-clause-none c = rw c.from_residual-in_err-name_of-in-None.ensures
    (no_name c.args.text.now c.in-None.ensures.none c.in_err-name_of-in-None.ensures.none)
