use Rattle.std.proofs.lemmas.List.{get_or-replicate}
use Rattle.rm_types.specs.declared.numbers.TheConstants.{BLOCK_SIZE}
use Rattle.rm_master.proofs.creation.zero_block.Goals as goal

pub returns-clause-zeros : goal.returns-clause-zeros
returns-clause-zeros c k below = get_or-replicate BLOCK_SIZE k 0 0 below
