use Rattle.rm_image.proofs.PrefixLaws.{inventory_blocks_have_prefixes}
use Rattle.rm_image.proofs.an_inventory_block_has_a_prefix.Goals as goal

pub returns : goal.returns
returns c = inventory_blocks_have_prefixes
