use Rattle.rm_outside.proofs.CallLemmas.{blocks_stay, bytes_stay, failed_bytes_stay, reads_once}
use Rattle.rm_outside.proofs.calls.read_area.Goals as goal

pub returns-in-Ok-clause-reads : goal.returns-in-Ok-clause-reads
returns-in-Ok-clause-reads g c =
    let said = c.read.ensures in (
      reads_once (g.met.V.Volume.only_now c.args.volume.now) said.modelled said.content said.crash said.time (record {
        faults = said.counts;
        blocks = blocks_stay _ _ _ said.blocks;
        log_bytes = bytes_stay _ _ _ _ c.in-Ok.ensures.log_bytes;
      }),
      said.same,
    )

pub returns-in-Err-clause-reads : goal.returns-in-Err-clause-reads
returns-in-Err-clause-reads g c =
    let said = c.read.ensures in (
      reads_once (g.met.V.Volume.only_now c.args.volume.now) said.modelled said.content said.crash said.time (record {
        faults = said.counts;
        blocks = blocks_stay _ _ _ said.blocks;
        log_bytes = failed_bytes_stay _ _ _ _ c.in-Err.ensures.log_bytes_err;
      }),
      said.same,
    )
