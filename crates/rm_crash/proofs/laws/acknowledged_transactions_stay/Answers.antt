use Rattle.rm_crash.proofs.Crashes.{acknowledged_stay}
use Rattle.rm_crash.proofs.laws.acknowledged_transactions_stay.Goals as goal

pub returns : goal.returns
returns c = acknowledged_stay
