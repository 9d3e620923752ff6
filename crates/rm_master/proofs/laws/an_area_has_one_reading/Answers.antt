use Rattle.rm_master.proofs.SlotLemmas.{one_shown}
use Rattle.rm_master.proofs.laws.an_area_has_one_reading.Goals as goal

pub returns : goal.returns
returns c area f g f_has g_has = one_shown _ _ f g f_has.rules g_has.rules f_has.slot g_has.slot
