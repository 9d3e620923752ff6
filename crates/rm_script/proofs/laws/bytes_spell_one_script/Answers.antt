use Rattle.rm_script.proofs.ScriptLaws.{readings_are_one}
use Rattle.rm_script.proofs.laws.bytes_spell_one_script.Goals as goal

pub returns : goal.returns
returns c = readings_are_one
