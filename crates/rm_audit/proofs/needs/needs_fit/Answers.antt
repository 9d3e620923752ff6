use Rattle.std.proofs.Common.{◌≡◌, ℕ, ◌+◌, ◌-◌, ◌<◌, ◌≤◌, List, [], length, reverse, refl, sym, ap, ◌∙◌, arith}
use Rattle.std.proofs.lemmas.List.{length-reverse}
use Rattle.rm_history.specs.Acts.{Change}
use Rattle.rm_history.specs.Pending.{without}
use Rattle.rm_model.specs.Sums.{sum_below}
use Rattle.rm_audit.specs.Parts.{need_in, IsLed}
use Rattle.rm_audit.proofs.Pendings.{length-without_led}
use Rattle.rm_model.proofs.Sums.{sum_below-zero}
use Rattle.rm_audit.proofs.Sums.{sum_below-without, all_within, not_within}
use Rattle.rm_audit.proofs.needs.needs_fit.Goals as goal

-- the room goes down by what a transaction needs, as the sum of the others' needs does
room_step : (first now next : List Change) (page txn room need start n : ℕ) → txn < n → need ≡ need_in now page txn → need ≤ room → next ≡ without now txn
    → sum_below (need_in first page) n + room ≡ sum_below (need_in now page) n + start
    → sum_below (need_in first page) n + (room - need) ≡ sum_below (need_in next page) n + start
room_step first now next page txn room need start n below is within left so_far =
    omega (arith, sum_below-without now page txn n below, is, within, so_far, ap (λ (l : List Change). sum_below (need_in l page) n) left)

-- a need above the room
too_much : (first now : List Change) (page txn room need start n : ℕ) → txn < n → need ≡ need_in now page txn → room < need
    → sum_below (need_in first page) n + room ≡ sum_below (need_in now page) n + start → start < sum_below (need_in first page) n
too_much first now page txn room need start n below is above so_far =
    omega (arith, sum_below-without now page txn n below, is, above, so_far)

-- no needs are left
none_left : (first now : List Change) (page room start n : ℕ) → now ≡ []
    → sum_below (need_in first page) n + room ≡ sum_below (need_in now page) n + start → sum_below (need_in first page) n ≤ start
none_left first now page room start n none so_far =
    omega (arith, so_far, ap (λ (l : List Change). sum_below (need_in l page) n) none ∙ sum_below-zero n)

pub returns-then-need-room : goal.returns-then-need-room
returns-then-need-room c =
    let now : List Change = reverse c.loop-txn.left.items in
    let is : c.need_among-need.result ≡ need_in now c.args.page c.in-Some.txn.0 = rw c.deref-in-Some.ensures.value at c.need_among-need.ensures in (
      λ yes. cc,
      λ within. absurd (not_within (need_in (reverse c.args.left.items) c.args.page) c.args.room
          (λ n enough. too_much (reverse c.args.left.items) now c.args.page c.in-Some.txn.0 c.loop-txn.room c.need_among-need.result c.args.room n
          (omega (arith, enough)) is (omega arith) (c.loop-txn.invariant n enough)) within),
    )

pub loop-txn-smaller : goal.loop-txn-smaller
loop-txn-smaller c =
    let now : List Change = reverse c.loop-txn.left.items in
    let led : IsLed c.in-Some.txn.0 now = rw c.deref.ensures.value at c.in-Some.ensures in
    omega (
      arith,
      length-without_led c.in-Some.txn.0 now led,
      ap length c.remove_of.ensures,
      length-reverse c.loop-txn.left.items,
      length-reverse c.remove_of.new.pending.items,
    )

pub loop-txn-preserved : goal.loop-txn-preserved
loop-txn-preserved c =
    let now : List Change = reverse c.loop-txn.left.items in
    let is : c.need_among-need.result ≡ need_in now c.args.page c.in-Some.txn.0 = rw c.deref-in-Some.ensures.value at c.need_among-need.ensures in
    λ n enough. room_step (reverse c.args.left.items) now
    (reverse c.remove_of.new.pending.items) c.args.page c.in-Some.txn.0 c.loop-txn.room c.need_among-need.result c.args.room n
    (omega (arith, enough)) is (omega arith) c.remove_of.ensures (c.loop-txn.invariant n enough)

pub returns : goal.returns
returns c =
    let none : c.loop-txn.left.items ≡ [] = sym c.deref.ensures.value ∙ c.in_default.ensures in (
      λ yes. all_within (need_in (reverse c.args.left.items) c.args.page) c.args.room
          (λ n enough. none_left (reverse c.args.left.items) (reverse c.loop-txn.left.items) c.args.page c.loop-txn.room c.args.room n
          (ap reverse none) (c.loop-txn.invariant n enough)),
      λ within. refl,
    )
