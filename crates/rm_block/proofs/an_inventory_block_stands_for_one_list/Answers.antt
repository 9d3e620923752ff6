use Rattle.rm_block.proofs.BlockLaws.{inventory_blocks_are_one}
use Rattle.rm_block.proofs.an_inventory_block_stands_for_one_list.Goals as goal

pub returns : goal.returns
returns c = inventory_blocks_are_one
