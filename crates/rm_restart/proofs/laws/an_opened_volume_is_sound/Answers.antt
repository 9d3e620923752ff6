use Rattle.std.proofs.Common.{IsTrue}
use Rattle.rm_restart.proofs.Soundness.{opened_is_sound}
use Rattle.rm_restart.proofs.laws.an_opened_volume_is_sound.Goals as goal

pub returns : goal.returns
returns c = λ models. opened_is_sound (IsTrue models)
