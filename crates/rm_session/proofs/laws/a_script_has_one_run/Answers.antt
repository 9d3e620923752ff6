use Rattle.rm_session.proofs.Runs as runs
use Rattle.rm_session.proofs.laws.a_script_has_one_run.Goals as goal

pub returns : goal.returns
returns c = runs.a_script_has_one_run
