use Rattle.std.proofs.Common.{take, sym, subst, arith}
use Rattle.rm_history.specs.Acts.{History, acts_of}
use Rattle.rm_pool.specs.Frames.{IsAfter}
use Rattle.rm_recovery.specs.Redone.{Redoes}
use Rattle.rm_recovery.proofs.Rising.{repeats_so_far, acts_of-next, misfit_of_all, next_after, next_is_record}
use Rattle.rm_recovery.proofs.redo.redo_all.Goals as goal

pub apply-requires-clause-is_record : goal.apply-requires-clause-is_record
apply-requires-clause-is_record c =
    next_is_record c.args.records.now c.loop-logged.logged-index c.logged-item.result c.loop-logged-test.true c.logged-item.is c.requires.are_records

pub apply-requires-clause-few : goal.apply-requires-clause-few
apply-requires-clause-few c = omega (arith, c.loop-logged.invariant.count, repeats_so_far c.args.records.now c.loop-logged.logged-index)

pub apply-requires-clause-after : goal.apply-requires-clause-after
apply-requires-clause-after c =
    subst (λ (h : History). IsAfter h c.logged-item.result.lsn.0) (sym c.loop-logged.invariant.applied)
    (next_after c.args.records.now c.loop-logged.logged-index c.logged-item.result c.loop-logged-test.true c.logged-item.is c.requires.rising)

pub returns-in-Err-Unfit-clause-misfit : goal.returns-in-Err-Unfit-clause-misfit
returns-in-Err-Unfit-clause-misfit c =
    let before = c.loop-logged.invariant in
    misfit_of_all c.args.pages c.args.records.now c.loop-logged.logged-index c.logged-item.result c.loop-logged-test.true c.logged-item.is before.fit
    (c.in-Err-Unfit.ensures.unfit c.args.pages (acts_of (take c.loop-logged.logged-index c.args.records.now)) before c.in-Err-Unfit.field-0-is)

pub loop-logged-preserved : goal.loop-logged-preserved
loop-logged-preserved c =
    let logged = c.logged-item.result in
    subst (λ (h : History). Redoes c.args.pages h c.apply.new.self) (sym (acts_of-next c.args.records.now c.loop-logged.logged-index logged c.loop-logged-test.true c.logged-item.is))
    (c.in-Ok.ensures.ok c.args.pages (acts_of (take c.loop-logged.logged-index c.args.records.now)) c.loop-logged.invariant)
