use Rattle.rm_block.proofs.Zeros.{zeros_are_empty}
use Rattle.rm_block.proofs.a_block_of_zeros_is_empty.Goals as goal

pub returns : goal.returns
returns c = zeros_are_empty
