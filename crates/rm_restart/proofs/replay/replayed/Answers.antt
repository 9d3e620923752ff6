use Rattle.std.proofs.Common.{◌+◌, take, sym, subst, arith}
use Rattle.rm_history.specs.Acts.{History, acts_of, newest_lsn}
use Rattle.rm_history.proofs.Appending.{lsn_of-act_at}
use Rattle.rm_restart.specs.Replaying.{HaveLsnsBelow, Replays}
use Rattle.rm_restart.proofs.Misfits.{repeats_so_far, acts_of-next, misfit_of_all, next_above}
use Rattle.rm_restart.proofs.replay.replayed.Goals as goal

pub apply-requires : goal.apply-requires
apply-requires c =
    let above = next_above c.args.records.now c.loop-logged.logged-index c.logged-item.result c.loop-logged-test.true c.logged-item.is c.requires in
    record {
      few = omega (arith, c.loop-logged.invariant.replays.inserts_are, repeats_so_far c.args.records.now c.loop-logged.logged-index);
      lacking = λ k d inside. omega (arith, above, c.loop-logged.invariant.below k d inside);
    }

pub returns-in-Err-Unfit-clause-misfit : goal.returns-in-Err-Unfit-clause-misfit
returns-in-Err-Unfit-clause-misfit c =
    let before = c.loop-logged.invariant.replays in
    misfit_of_all c.args.pages c.args.records.now c.loop-logged.logged-index c.logged-item.result c.loop-logged.replay c.loop-logged-test.true c.logged-item.is before
    (c.in-Err-Unfit.ensures.unfit c.args.pages (acts_of (take c.loop-logged.logged-index c.args.records.now)) before c.in-Err-Unfit.field-0-is)

pub loop-logged-preserved : goal.loop-logged-preserved
loop-logged-preserved c =
    let logged = c.logged-item.result in
    let next = sym (acts_of-next c.args.records.now c.loop-logged.logged-index logged c.loop-logged-test.true c.logged-item.is) in
    record {
      replays = subst (λ (h : History). Replays c.args.pages h c.apply.new.self) next
          (c.in-Ok.ensures.ok c.args.pages (acts_of (take c.loop-logged.logged-index c.args.records.now)) c.loop-logged.invariant.replays);
      below = subst (λ (h : History). HaveLsnsBelow (newest_lsn h + 1) c.apply.new.self.pages.items) next
          (λ k d inside. omega (arith, lsn_of-act_at logged.lsn.0 logged.what, c.in-Ok.ensures.upto k d inside));
    }
