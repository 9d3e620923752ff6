use Rattle.std.proofs.Common.{◌*◌}
use Rattle.rm_outside.specs.Images.{KeepsOthers}
use Rattle.rm_outside.specs.Calls.{Writes}
use Rattle.rm_types.specs.declared.numbers.TheConstants.{BLOCK_SIZE}
use Rattle.rm_master.specs.Fresh.{IsZeroBelow}
use Rattle.rm_master.proofs.creation.clear_blocks.Given as goal

-- the blocks so far are zeros, and every image has the other areas of one from before
abbrev pub invariant-loop-block : goal.invariant-loop-block
invariant-loop-block g l = record {
  zeros : g.V.Volume.models_content l.volume → IsZeroBelow (g.V.Volume.content l.volume l.area) (BLOCK_SIZE * l.block);
  writes : Writes g.V.Volume (KeepsOthers l.area) l.initial.volume l.volume;
}
