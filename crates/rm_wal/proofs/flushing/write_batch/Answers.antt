use Rattle.std.proofs.lemmas.Result.{on_ok_weaker}
use Rattle.rm_outside.proofs.CallLemmas.{writes_synced}
use Rattle.rm_wal.proofs.Crash.{tail_written, others_stay, gate_written, gate_opened}
use Rattle.rm_wal.proofs.flushing.write_batch.Goals as goal

-- the bytes are torn after a gate that is as it was
pub returns-in_err-write_area-clause-writes : goal.returns-in_err-write_area-clause-writes
returns-in_err-write_area-clause-writes g c = (others_stay (tail_written c.write_area.ensures.writes.0), cc)

pub returns-in_err-sync_area-clause-writes : goal.returns-in_err-sync_area-clause-writes
returns-in_err-sync_area-clause-writes g c = (others_stay (writes_synced (tail_written c.write_area.ensures.writes.0) c.sync_area.ensures.reads.0), cc)

-- they stand after a gate that is torn
pub returns-in_err-write_area-2-clause-writes : goal.returns-in_err-write_area-2-clause-writes
returns-in_err-write_area-2-clause-writes g c = (
  gate_written c.write_area.ensures.writes.0 c.in_ok-write_area.ensures.bytes c.sync_area.ensures.reads.0 c.in_ok-sync_area.ensures.synced
      (g.met.V.Volume.only_modelled c.sync_area.new.volume) c.write_area-2.ensures.writes.0,
  cc,
)

pub returns-clause-writes : goal.returns-clause-writes
returns-clause-writes g c = (
  writes_synced (gate_written c.write_area.ensures.writes.0 c.in_ok-write_area.ensures.bytes c.sync_area.ensures.reads.0 c.in_ok-sync_area.ensures.synced
      (g.met.V.Volume.only_modelled c.sync_area.new.volume) c.write_area-2.ensures.writes.0)
      c.sync_area-2.ensures.reads.0,
  cc,
)

-- and at last after the open gate
pub returns-clause-flushed : goal.returns-clause-flushed
returns-clause-flushed g c =
    on_ok_weaker c.sync_area-2.result
    (gate_opened c.write_area.ensures.writes.0 c.in_ok-write_area.ensures.bytes c.sync_area.ensures.reads.0 c.in_ok-sync_area.ensures.synced
    (g.met.V.Volume.only_modelled c.sync_area.new.volume) c.write_area-2.ensures.writes.0 c.sync_area-2.ensures.reads.0
    c.in_ok-write_area-2.ensures.bytes (g.met.V.Volume.only_modelled c.sync_area-2.new.volume))
    c.sync_area-2.ensures.synced
