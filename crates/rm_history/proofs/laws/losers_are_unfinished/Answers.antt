use Rattle.rm_history.proofs.Losers.{losers_are_unfinished}
use Rattle.rm_history.proofs.laws.losers_are_unfinished.Goals as goal

pub returns : goal.returns
returns c = losers_are_unfinished
