use Rattle.std.proofs.Common.{subst, refl, arith}
use Rattle.std.proofs.lemmas.Result.{err_from_is_err_and}
use Rattle.rm_types.specs.declared.areas.Area.TheVariants.{Log}
use Rattle.rm_outside.specs.Images.{Image}
use Rattle.rm_outside.proofs.CallLemmas.{reads_none, reads_then}
use Rattle.rm_history.specs.Logs.{IsWrongAfter}
use Rattle.rm_wal.specs.Batches.{ReadsBatch}
use Rattle.rm_wal.proofs.AttachSteps.{reads_no_batch, reads_next_batch, gates_rise, damaged_there, batches_on}
use Rattle.rm_wal.proofs.attaching.read_batches.Goals as goal

pub loop-records-init : goal.loop-records-init
loop-records-init g c = record {
  before = rw c.new-records.ensures.items (reads_no_batch _ _);
  bound = omega arith;
  reads = (reads_none (g.met.V.Volume.only_now c.args.volume.now), refl);
}

pub loop-records-preserved : goal.loop-records-preserved
loop-records-preserved g c =
    let there = c.loop-records.invariant in
    let found = rw c.in-Some.is at c.in_ok-next.ensures.found in
    let next = subst (λ (image : Image). ReadsBatch (g.V.Volume.models_content c.read_batch.new.volume) (image Log) c.loop-records.gate c.in-Some.next c.loop-records.records.items c.read_batch.new.records.items) there.reads.0.content found in
    record {
      before = reads_next_batch (batches_on c.in_ok-next.ensures.reads.0.modelled there.before) next;
      bound = (gates_rise next).1;
      reads = (reads_then there.reads.0 c.in_ok-next.ensures.reads.0, cc);
    }

pub returns-in_err-next-clause-damaged : goal.returns-in_err-next-clause-damaged
returns-in_err-next-clause-damaged g c = λ area at modelled.
    let there = c.loop-records.invariant in
    let passed = err_from_is_err_and c.from_residual.result c.from_residual.ensures.1 in
    let damaged = c.in_err-next.ensures.damaged area at cc in
    (damaged.0, λ models. damaged_there (batches_on c.in_err-next.ensures.reads.0.modelled there.before) models (subst (λ (image : Image). IsWrongAfter (image Log) c.loop-records.gate at) there.reads.0.content (damaged.1 models)))
