use Rattle.rm_memory.specs.Mediums.{events, base_image}
use Rattle.rm_memory.proofs.StepLaws.{content_fresh}
use Rattle.rm_memory.proofs.volume.MemVolume.over.Goals as goal

pub returns-clause-content : goal.returns-clause-content
returns-clause-content c = content_fresh (base_image c.args.medium) (events c.args.medium) c.requires
