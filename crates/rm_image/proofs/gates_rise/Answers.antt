use Rattle.rm_image.proofs.Gates.{gates_rise}
use Rattle.rm_image.proofs.gates_rise.Goals as goal

pub returns : goal.returns
returns c = gates_rise
