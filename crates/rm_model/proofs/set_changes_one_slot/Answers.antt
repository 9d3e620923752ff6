use Rattle.rm_model.proofs.Slots.{row_at-set_slot, length-set_slot}
use Rattle.rm_model.proofs.set_changes_one_slot.Goals as goal

pub returns : goal.returns
returns c = record { rows = row_at-set_slot; count = length-set_slot }
