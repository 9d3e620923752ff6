use Rattle.rm_restart.proofs.OneDamage.{damage_is_one}
use Rattle.rm_restart.proofs.laws.one_place_is_damaged.Goals as goal

pub returns : goal.returns
returns c = damage_is_one
