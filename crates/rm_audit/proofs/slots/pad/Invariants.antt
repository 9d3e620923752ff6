use Rattle.std.proofs.Common.{◌≡◌, ◌++◌, replicate}
use Rattle.rm_types.specs.declared.slots.Slot.TheVariants.{Vacant}
use Rattle.rm_audit.proofs.slots.pad.Given as goal

abbrev pub invariant-loop-added : goal.invariant-loop-added
invariant-loop-added l = l.slots.items ≡ l.initial.slots.items ++ replicate l._added Vacant
