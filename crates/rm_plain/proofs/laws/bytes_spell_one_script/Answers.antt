use Rattle.rm_plain.proofs.Readings.{readings_are_one}
use Rattle.rm_plain.proofs.laws.bytes_spell_one_script.Goals as goal

pub returns : goal.returns
returns c = readings_are_one
