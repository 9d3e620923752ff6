use Rattle.std.proofs.Common.{◌≡◌, ◌+◌, ◌*◌, ◌≤◌, take}
use Rattle.rm_types.specs.declared.rows.TheConstants.{MAX_ROW}
use Rattle.rm_types.specs.declared.slots.TheConstants.{SLOT_ENTRY}
use Rattle.rm_model.specs.Pages.{used as used_by}
use Rattle.rm_audit.proofs.pages.used.Given as goal

abbrev pub invariant-loop-slot : goal.invariant-loop-slot
invariant-loop-slot l = (l.used ≡ used_by (take l.slot-index l.slots)) × (l.used ≤ (SLOT_ENTRY + MAX_ROW) * l.slot-index)
