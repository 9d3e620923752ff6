use Rattle.rm_script.proofs.ScriptLaws.{first_wrong_is_one}
use Rattle.rm_script.proofs.laws.one_line_is_the_first_wrong.Goals as goal

pub returns : goal.returns
returns c = first_wrong_is_one
