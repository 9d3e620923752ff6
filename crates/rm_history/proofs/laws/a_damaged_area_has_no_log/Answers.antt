use Rattle.rm_history.proofs.Damages.{damaged_has_no_log, damage_once}
use Rattle.rm_history.proofs.laws.a_damaged_area_has_no_log.Goals as goal

pub returns : goal.returns
returns c = record { no_log = damaged_has_no_log; one_place = damage_once }
