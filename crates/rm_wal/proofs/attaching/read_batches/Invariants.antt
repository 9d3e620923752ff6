use Rattle.std.proofs.Common.{◌-◌, ◌≤◌}
use Rattle.rm_types.specs.declared.areas.Area.TheVariants.{Log}
use Rattle.rm_types.specs.declared.numbers.TheConstants.{MAX_LOG}
use Rattle.rm_outside.specs.Calls.{OnlyReads}
use Rattle.rm_wal.specs.Batches.{ReadsBatches}
use Rattle.rm_wal.proofs.attaching.read_batches.Given as goal

abbrev pub invariant-loop-records : goal.invariant-loop-records
invariant-loop-records g l = record {
  before : ReadsBatches (g.V.Volume.models_content l.volume) (g.V.Volume.content l.fn.volume Log) l.gate l.records.items;
  bound : l.gate ≤ MAX_LOG;
  reads : OnlyReads g.V.Volume Log l.fn.volume l.volume;
}

abbrev pub decreases-loop-records : goal.decreases-loop-records
decreases-loop-records g l = MAX_LOG - l.gate
