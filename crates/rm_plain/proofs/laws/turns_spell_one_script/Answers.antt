use Rattle.rm_plain.proofs.Turns.{turns_readings_are_one}
use Rattle.rm_plain.proofs.laws.turns_spell_one_script.Goals as goal

pub returns : goal.returns
returns c = turns_readings_are_one
