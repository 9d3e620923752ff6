use Rattle.rm_block.proofs.BlockLaws.{data_blocks_are_one}
use Rattle.rm_block.proofs.a_data_block_stands_for_one_page.Goals as goal

pub returns : goal.returns
returns c = data_blocks_are_one
