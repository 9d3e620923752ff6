use Rattle.std.proofs.Common.{◌≡◌, length, refl, sym, ◌∙◌, rules}
use Rattle.rm_master.proofs.SlotLemmas.{one_list, length-slot_bytes}
use Rattle.rm_master.proofs.slots.read_slot.Goals as goal

pub returns-in-None-clause-cause : goal.returns-in-None-clause-cause
returns-in-None-clause-cause g c = (
  refl,
  c.slot_offset-at.ensures,
  λ models fields kept shown.
      let whole : length c.read_area.new.into ≡ 36 = search rules in
      c.in-None.ensures.none fields kept (one_list _ _ _ _ (whole ∙ sym (length-slot_bytes fields)) (c.in_ok-read_area.ensures.bytes models) shown),
)
