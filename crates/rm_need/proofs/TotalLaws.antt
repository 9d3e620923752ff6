-- The totals of pages as entries change.
use Rattle.std.proofs.Common.{◌≡◌, ℕ, suc, ◌+◌, ◌-◌, ◌<◌, ◌≤◌, ◌^◌, false, List, [], Option, Some, unwrap_or, IsSome, inl, inr, refl, sym, ap, subst, ◌∙◌, arith}
use Rattle.std.proofs.lemmas.Grind.{common_steps}
use Rattle.std.proofs.lemmas.Bool.{cases_eq, eq-eqb, ne_eqb}
use Rattle.std.specs.Ordering.{nat_cmp}
use Rattle.std.specs.BTreeMap.{BTreeMap, is_at, Updates}
use Rattle.rm_types.specs.declared.slots.TheConstants.{CAPACITY}
use Rattle.rm_model.specs.Sums.{sum_below}
use Rattle.rm_model.proofs.Sums.{sum_below-zero, sum_below-same, sum_below-one, sum_below-past, sum_below-at}
use Rattle.rm_need.specs.declared.keys.Key.{Key}
use Rattle.rm_need.specs.contracts.keys.KeyOrd.TheImpl as order
use Rattle.rm_need.specs.Needs.{Reserved, entry_in, need_in, with_need, HasRoom, IsOther}
use Rattle.rm_need.specs.Totals.{entry_of, total_of, AreTotals}

-- a number above all transactions
enough : (n : ℕ) × (2 ^ 32 ≤ n)
enough = (2 ^ 32, omega arith)

-- no entries need no totals
pub no_totals : (reserved : Reserved) (totals : List (ℕ × ℕ)) → reserved ≡ [] → totals ≡ [] → AreTotals reserved totals
no_totals reserved totals none no_total =
    rw (none, no_total) (record { sums = λ page n _. sum_below-zero n; bounded = λ page. omega arith; kept = λ page txn has. absurd cc })

-- the totals of entries are those of what they are seen as
pub seen_totals : (entries seen : Reserved) (totals : List (ℕ × ℕ)) → entries ≡ seen → AreTotals entries totals → AreTotals seen totals
seen_totals entries seen totals same are = subst (λ (r : Reserved). AreTotals r totals) same are

-- no number past the transactions has a need
none_past : (reserved : Reserved) (totals : List (ℕ × ℕ)) (page txn : ℕ) → AreTotals reserved totals → 2 ^ 32 ≤ txn → need_in reserved page txn ≡ 0
none_past reserved totals page txn are past = omega (arith, are.sums page txn past, are.sums page (suc txn) (omega arith))

-- a need is at most the total
pub need_within : (reserved : Reserved) (totals : List (ℕ × ℕ)) (page txn : ℕ) → AreTotals reserved totals → txn < 2 ^ 32
    → need_in reserved page txn ≤ total_of totals page
need_within reserved totals page txn are known =
    omega (arith, are.sums page enough.0 enough.1, sum_below-at (need_in reserved page) txn enough.0 (omega (arith, enough.1)))

-- the needs with another for one transaction, at that transaction and at the others
with_need-this : (reserved : Reserved) (page txn need : ℕ) → with_need reserved page txn need txn ≡ need
with_need-this reserved page txn need = rw (eq-eqb txn txn refl)

with_need-other : (reserved : Reserved) (page txn need other : ℕ) → (other ≡ txn → ⊥) → with_need reserved page txn need other ≡ need_in reserved page other
with_need-other reserved page txn need other differs = rw (ne_eqb other txn differs)

-- needs that differ from those of a page at one transaction alone add up to the others' and that one
sum_of : (reserved : Reserved) (needs : ℕ → ℕ) (page txn n : ℕ) → ((other : ℕ) → (other ≡ txn → ⊥) → needs other ≡ need_in reserved page other) → txn < n
    → sum_below needs n ≡ sum_below (with_need reserved page txn 0) n + needs txn
sum_of reserved needs page txn n others below =
    omega (
      arith,
      with_need-this reserved page txn 0,
      sum_below-one (with_need reserved page txn 0) needs txn n
          (λ other differs. others other differs ∙ sym (with_need-other reserved page txn 0 other differs)) below,
    )

-- what the others need: the sum of their needs, by each number of transactions that is enough
abbrev pub IsRest : Reserved → ℕ → ℕ → ℕ → Type 0
IsRest reserved page txn rest =
    (n : ℕ) → ((other : ℕ) → n ≤ other → need_in reserved page other ≡ 0) → rest ≡ sum_below (with_need reserved page txn 0) n

pub rest_is : (reserved : Reserved) (totals : List (ℕ × ℕ)) (page txn : ℕ) → AreTotals reserved totals → txn < 2 ^ 32
    → IsRest reserved page txn (total_of totals page - need_in reserved page txn)
rest_is reserved totals page txn are known n none =
    let all = n + enough.0 in
    let none_of_them = λ (other : ℕ) (past : n ≤ other). elim (cases_eq other txn) as (λ _. with_need reserved page txn 0 other ≡ 0) [
      | inl this ↦ rw (eq-eqb other txn this) refl
      | inr differs ↦ with_need-other reserved page txn 0 other differs ∙ none other past
    ] in
    omega (
      arith,
      are.sums page all (omega (arith, enough.1)),
      sum_of reserved (need_in reserved page) page txn all (λ _ _. refl) (omega (arith, enough.1)),
      sum_below-past (with_need reserved page txn 0) n all none_of_them (omega arith),
    )

rest_at : (reserved : Reserved) (totals : List (ℕ × ℕ)) (page txn rest n : ℕ) → AreTotals reserved totals → IsRest reserved page txn rest → 2 ^ 32 ≤ n
    → rest ≡ sum_below (with_need reserved page txn 0) n
rest_at reserved totals page txn rest n are is past = is n (λ other above. none_past reserved totals page other are (omega (arith, past, above)))

-- where there is room for a need, it and what the others need are at most the capacity
pub room_is : (reserved : Reserved) (totals : List (ℕ × ℕ)) (page txn need rest : ℕ) → AreTotals reserved totals → txn < 2 ^ 32
    → IsRest reserved page txn rest → HasRoom reserved page txn need → rest + need ≤ CAPACITY
room_is reserved totals page txn need rest are known is room =
    omega (
      arith,
      room enough.0,
      rest_at reserved totals page txn rest enough.0 are is enough.1,
      with_need-this reserved page txn need,
      sum_of reserved (with_need reserved page txn need) page txn enough.0 (with_need-other reserved page txn need) (omega (arith, enough.1)),
    )

pub need_within_room : (reserved : Reserved) (page txn need : ℕ) → HasRoom reserved page txn need → need ≤ CAPACITY
need_within_room reserved page txn need room =
    omega (arith, room (suc txn), with_need-this reserved page txn need, sum_below-at (with_need reserved page txn need) txn (suc txn) (omega arith))

-- an entry and the total of its page are set, and nothing else changes: the totals are the sums still
module _ (old new : BTreeMap Key ℕ) (totals next : BTreeMap ℕ ℕ) (page txn rest total : ℕ) (entry : Option ℕ) (are : AreTotals old.entries totals.entries)
    (sets : Updates order.ghosts.cmp old new (record { txn = record { 0 = txn }; page = page }) entry) (sets_total : Updates nat_cmp totals next page (Some total)) where
  this_total : (at : ℕ) → at ≡ page → entry_of next.entries at ≡ Some total
  this_total at here = ap (entry_of next.entries) here ∙ sets_total.1

  other_total : (at : ℕ) → (at ≡ page → ⊥) → entry_of next.entries at ≡ entry_of totals.entries at
  other_total at other = let apart : is_at (nat_cmp page) at ≡ false = grind (arith, common_steps) in sets_total.2 at apart

  other_entry : (at by : ℕ) → IsOther at by page txn → entry_in new.entries at by ≡ entry_in old.entries at by
  other_entry at by other =
      let apart : is_at (order.ghosts.cmp (record { txn = record { 0 = txn }; page = page })) (record { txn = record { 0 = by }; page = at }) ≡ false = grind (arith, common_steps) in
      sets.2 _ apart

  pub keeps_totals : (seen : Reserved) → old.entries ≡ seen → txn < 2 ^ 32 → IsRest seen page txn rest → total ≡ rest + unwrap_or entry 0 → total ≤ CAPACITY
      → AreTotals new.entries next.entries
  keeps_totals seen same known is adds room = record {
    sums = λ at n past. elim (cases_eq at page) [
      | inl here ↦
          omega (
            arith,
            ap (λ (p : ℕ). sum_below (need_in new.entries p) n) here,
            sum_of old.entries (need_in new.entries page) page txn n (λ by differs. ap (λ o. unwrap_or o 0) (other_entry page by (λ _. differs)))
                (omega (arith, known, past)),
            ap (λ o. unwrap_or o 0) sets.1,
            rest_at old.entries totals.entries page txn rest n are (subst (λ (r : Reserved). IsRest r page txn rest) (sym same) is) past,
            adds,
            ap (λ o. unwrap_or o 0) (this_total at here),
          )
      | inr other ↦
          sum_below-same (need_in old.entries at) (need_in new.entries at) n (λ by _. ap (λ o. unwrap_or o 0) (other_entry at by (λ here _. other here)))
          ∙ are.sums at n past ∙ sym (ap (λ o. unwrap_or o 0) (other_total at other))
    ];
    bounded = λ at. elim (cases_eq at page) [
      | inl here ↦ omega (arith, room, ap (λ o. unwrap_or o 0) (this_total at here))
      | inr other ↦ omega (arith, are.bounded at, ap (λ o. unwrap_or o 0) (other_total at other))
    ];
    kept = λ at by has. elim (cases_eq at page) [
      | inl here ↦ subst IsSome (sym (this_total at here)) refl
      | inr other ↦ subst IsSome (sym (other_total at other)) (are.kept at by (subst IsSome (other_entry at by (λ here _. other here)) has))
    ];
  }
