use Rattle.std.proofs.Common.{ap, subst, Err}
use Rattle.std.proofs.lemmas.Result.{err_from_is_err_and}
use Rattle.rm_outside.specs.Calls.{facts_of}
use Rattle.rm_recovery.specs.Redone.{AreRecords, AreRising}
use Rattle.rm_recovery.proofs.Rising.{batches_are_records, batches_rise}
use Rattle.rm_recovery.proofs.Openings.{explains_store}
use Rattle.rm_recovery.proofs.opening.read_log.Goals as goal

pub returns-in_err-attached-clause-cause : goal.returns-in_err-attached-clause-cause
returns-in_err-attached-clause-cause g c =
    let p = err_from_is_err_and c.from_residual.result c.from_residual.ensures.1 in
    rw (p.1, p.2) (explains_store (facts_of g.V.Volume c.args.volume.now) (facts_of g.V.Volume c.attach.new.volume) c.args.fields.now c.in_err-attached.field-0.0
    (λ models. c.requires.read.has_fields (c.attach.ensures.reads.0.modelled models)) c.requires.read.checkpoint
    (λ area at is. c.in_err-attached.ensures.damaged area at (ap Err is)) c.in_err-attached.ensures.cause)

pub redo_all-requires-clause-rising : goal.redo_all-requires-clause-rising
redo_all-requires-clause-rising g c =
    let attached = c.in_ok-attached.ensures.attached in
    rw c.deref.ensures.value (subst AreRising attached.history_is (batches_rise attached.batches))

pub redo_all-requires-clause-are_records : goal.redo_all-requires-clause-are_records
redo_all-requires-clause-are_records g c =
    let attached = c.in_ok-attached.ensures.attached in
    rw c.deref.ensures.value (subst AreRecords attached.history_is (batches_are_records attached.batches attached.are_batches))
