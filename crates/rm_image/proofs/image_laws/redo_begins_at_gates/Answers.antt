use Rattle.rm_image.proofs.GateLaws.{redo_begins_at_gates}
use Rattle.rm_image.proofs.image_laws.redo_begins_at_gates.Goals as goal

pub returns : goal.returns
returns g c = redo_begins_at_gates g.R.HistoryRules.rules
