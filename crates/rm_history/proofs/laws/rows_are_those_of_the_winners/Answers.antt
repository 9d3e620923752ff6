use Rattle.rm_history.proofs.WinnerLaws.{rows_are_of_winners}
use Rattle.rm_history.proofs.laws.rows_are_those_of_the_winners.Goals as goal

pub returns : goal.returns
returns c = rows_are_of_winners
