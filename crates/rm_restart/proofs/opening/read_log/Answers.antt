use Rattle.std.proofs.Common.{ap, subst, Err}
use Rattle.std.proofs.lemmas.Result.{err_from_is_err_and}
use Rattle.rm_outside.specs.Calls.{facts_of}
use Rattle.rm_outside.proofs.CallLemmas.{synced_on}
use Rattle.rm_restart.specs.Replaying.{AreRising}
use Rattle.rm_restart.proofs.Misfits.{batches_rise}
use Rattle.rm_restart.proofs.Openings.{explains_store, opens}
use Rattle.rm_restart.proofs.opening.read_log.Goals as goal

pub returns-in_err-attached-clause-cause : goal.returns-in_err-attached-clause-cause
returns-in_err-attached-clause-cause g c =
    let p = err_from_is_err_and c.from_residual.result c.from_residual.ensures.1 in
    rw (p.1, p.2) (explains_store (facts_of g.V.Volume c.args.volume.now) (facts_of g.V.Volume c.attach.new.volume) c.args.fields.now c.in_err-attached.field-0.0
    (λ models. c.requires.fields (c.attach.ensures.reads.0.modelled models)) c.requires.none (synced_on c.attach.ensures.reads.0 c.requires.synced) (λ area at is. c.in_err-attached.ensures.damaged area at (ap Err is)) c.in_err-attached.ensures.cause)

pub replayed-requires : goal.replayed-requires
replayed-requires g c =
    let attached = c.in_ok-attached.ensures.attached in
    rw c.deref.ensures.value (subst (λ h. AreRising h) attached.history_is (batches_rise attached.batches))

pub returns-clause-opened : goal.returns-clause-opened
returns-clause-opened g c =
    let replayed = rw c.deref.ensures.value at c.in_ok-replay.ensures.ok in
    opens (g.V.Volume.models_content c.attach.new.volume) (g.V.Volume.content c.args.volume.now) c.args.limit c.args.fields.now c.in_ok-attached.attached.log c.in_ok-attached.attached.records.items
    c.in_ok-replay.replay c.finished.result c.requires.rules c.requires.none (λ models. c.requires.fields (c.attach.ensures.reads.0.modelled models)) c.in_ok-attached.ensures.attached replayed
    c.finished.ensures.none c.finished.ensures.pages c.finished.ensures.next c.finished.ensures.log c.finished.ensures.report
