use Rattle.rm_history.proofs.RecordsOfActs.{acts_determine_records}
use Rattle.rm_history.proofs.laws.an_act_determines_its_record.Goals as goal

pub returns : goal.returns
returns c = acts_determine_records
