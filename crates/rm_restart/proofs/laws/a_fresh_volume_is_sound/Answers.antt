use Rattle.rm_restart.proofs.Soundness.{fresh_is_sound}
use Rattle.rm_restart.proofs.laws.a_fresh_volume_is_sound.Goals as goal

pub returns : goal.returns
returns c = fresh_is_sound
