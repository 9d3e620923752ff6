use Rattle.rm_image.proofs.PrefixLaws.{blocks_have_prefixes}
use Rattle.rm_image.proofs.a_page_block_has_a_prefix.Goals as goal

pub returns : goal.returns
returns c = blocks_have_prefixes
