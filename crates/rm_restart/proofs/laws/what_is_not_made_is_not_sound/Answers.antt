use Rattle.rm_restart.proofs.Soundness.{sound_is_made}
use Rattle.rm_restart.proofs.laws.what_is_not_made_is_not_sound.Goals as goal

pub returns : goal.returns
returns c = sound_is_made
