use Rattle.std.proofs.Common.{◌≡◌, ◌-◌, ◌++◌, replicate}
use Rattle.std.specs.Vec.{vec_len, vec_capacity}
use Rattle.rm_types.specs.declared.slots.Slot.TheVariants.{Vacant}
use Rattle.rm_page.proofs.directory.put.Given as goal

abbrev pub invariant-loop-added : goal.invariant-loop-added
invariant-loop-added l =
    record {
      items : l.slots.items ≡ l.initial.slots.items ++ replicate (l._added - vec_len l.initial.slots) Vacant;
      len : vec_len l.slots ≡ l._added;
      memory : vec_capacity l.slots ≡ vec_capacity l.initial.slots;
    }
