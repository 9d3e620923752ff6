use Rattle.rm_core.proofs.Serials.{runs_are_serial}
use Rattle.rm_core.proofs.laws.runs_are_serial.Goals as goal

pub returns : goal.returns
returns c = runs_are_serial
