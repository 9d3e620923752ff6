use Rattle.rm_script.proofs.ScriptLaws.{scripts_end_anywhere}
use Rattle.rm_script.proofs.laws.a_script_may_end_after_any_line.Goals as goal

pub returns : goal.returns
returns c = scripts_end_anywhere
