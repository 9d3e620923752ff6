use Rattle.rm_session.proofs.Runs as runs
use Rattle.rm_session.proofs.laws.every_script_runs.Goals as goal

pub returns : goal.returns
returns c = runs.every_script_runs
