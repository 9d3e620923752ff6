use Rattle.std.proofs.lemmas.Result.{on_ok_weaker}
use Rattle.rm_master.proofs.Clearing.{zeros_on}
use Rattle.rm_master.proofs.creation.clear_block.Goals as goal

pub returns-clause-zeros : goal.returns-clause-zeros
returns-clause-zeros g c =
    on_ok_weaker c.write_area.result
    (λ written told below. zeros_on _ _ _ _ _ _ c.zero_block-zeros.ensures.len c.zero_block-zeros.ensures.zeros c.write_area.ensures.writes.0.content (written told) below)
    c.write_area.ensures.bytes
