use Rattle.std.proofs.Common.{◌≡◌, ℕ, ◌+◌, ◌-◌, ◌≤◌, List, Vec, length, map, ap, ◌∙◌}
use Rattle.std.specs.declared.alloc.Global.{Global}
use Rattle.std.specs.Vec.{with_items}
use Rattle.std.proofs.lemmas.List.{with_items_is, length-map}
use Rattle.rm_memory.specs.Calls.{lists}
use Rattle.rm_memory.proofs.CallLemmas.{listed_later}
use Rattle.rm_memory.proofs.calls.count_call.Goals as goal

nears : (fails : Vec ℕ Global) (before calls : List ℕ) → before ≡ fails.items → length before ≡ fails.len → calls ≡ map (λ k. k - 1) before
    → (n : ℕ) → 1 ≤ n → lists (with_items fails calls).items n ≡ lists fails.items (n + 1)
nears fails before calls value len fallen n from =
    ap (λ (l : List ℕ). lists l n) (with_items_is fails calls (ap (λ (l : List ℕ). length l) fallen ∙ length-map before (λ k. k - 1) ∙ len) ∙ fallen)
    ∙ listed_later before n from
    ∙ ap (λ (l : List ℕ). lists l (n + 1)) value

pub returns-clause-nears : goal.returns-clause-nears
returns-clause-nears c = nears c.args.calls.now c.deref_mut.result.now c.count_down.new.calls c.deref_mut.ensures.value c.deref_mut.ensures.len c.count_down.ensures
