use Rattle.std.proofs.Common.{IsTrue}
use Rattle.rm_restart.proofs.Soundness.{opened_needs_no_undo}
use Rattle.rm_restart.proofs.laws.an_opened_volume_needs_no_undo.Goals as goal

pub returns : goal.returns
returns c = λ models. opened_needs_no_undo (IsTrue models)
