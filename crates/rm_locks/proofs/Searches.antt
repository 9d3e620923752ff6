-- The first entry that passes a test, among some entries of a list that is in order.
use Rattle.std.proofs.Common.{◌≡◌, Bool, true, false, cond, List, [], ◌∷◌, Option, Some, MatchOption, IfSome, All, filter, find, Ordering, Less, Equal, Greater, is_gt, is_eq, refl, ap, ◌∙◌}
use Rattle.std.specs.Ordering.{ordering_reverse}
use Rattle.std.specs.Cmp.{IsTotalOrder}
use Rattle.std.specs.List.Sorted.{IsStrictlySortedBy}
use Rattle.std.specs.Map.{lookup, keys_of}
use Rattle.std.specs.BTreeMap.{is_at}
use Rattle.std.proofs.lemmas.Cmp.{tied_back}
use Rattle.std.proofs.lemmas.List.Elements.{All-head, All-tail}
use Rattle.std.proofs.lemmas.Map.{lookup-none}
use Rattle.std.proofs.lemmas.Map.Entries.{none_below_head}
use Rattle.std.proofs.lemmas.Map.Keys.{sorted_tail}
use Rattle.std.proofs.lemmas.Map.Lookups.{CmpEqualImpliesEq}

-- what holds of each element holds of the first that passes
pub find_holds : {X : Type 0} (test : X → Bool) (P : X → Type 0) (xs : List X) → All P xs → IfSome (find test xs) (λ x. P x × (test x ≡ true))
find_holds test P [] all = tt
find_holds {X} test P (x ∷ xs) all = by (find_holds test P xs (All-tail P x xs all)) (test x) refl
  where
    by : IfSome (find test xs) (λ (y : X). P y × (test y ≡ true)) → (b : Bool) → test x ≡ b
        → IfSome (cond b (Some x) (find test xs)) (λ (y : X). P y × (test y ≡ true))
    by later true is = (All-head P x xs all, is)
    by later false is = later

-- an entry, which is not above the key
abbrev pub IsUpTo : {K X : Type 0} → (K → K → Ordering) → K → Option (K × X) → Type 0
IsUpTo R k found = MatchOption found ⊥ (λ e. is_gt (R e.0 k) ≡ false)

-- where an entry inside passes, the first one that does is not above it
pub find_least : {K X : Type 0} {R : K → K → Ordering} (o : IsTotalOrder R) (exact : CmpEqualImpliesEq R) (inside : K → Bool) (test : K × X → Bool) (es : List (K × X))
    → IsStrictlySortedBy R (keys_of es) → (k : K) (v : X) → lookup (is_at (R k)) es ≡ Some v → inside k ≡ true → test (k, v) ≡ true
    → IsUpTo R k (find test (filter (λ e. inside e.0) es))
find_least o exact inside test [] sorted k v found in_it passes = cc
find_least {K} {X} {R} o exact inside test (e ∷ es) sorted k v found in_it passes =
    by (λ there. find_least o exact inside test es (sorted_tail R e.0 (keys_of es) sorted) k v there in_it passes) (R k e.0) refl
  where
    by : (lookup (is_at (R k)) es ≡ Some v → IsUpTo R k (find test (filter (λ (x : K × X). inside x.0) es))) → (r : Ordering) → R k e.0 ≡ r → IsUpTo R k (find test (filter (λ (x : K × X). inside x.0) (e ∷ es)))
    by later Less is = let none = lookup-none (is_at (R k)) (e ∷ es) (none_below_head o k e es sorted is) in cc
    by later Equal is =
        let same : k ≡ e.0 = exact k e.0 is in
        let at : is_at (R k) e.0 ≡ true = ap is_eq is in
        let value_is : v ≡ e.1 = let value : Some e.1 ≡ Some v = rw at at found in cc in
        let in_e : inside e.0 ≡ true = cc in
        let pass_e : test e ≡ true = rw (same, value_is) at passes in
        rw (in_e, pass_e) (ap is_gt (tied_back o k e.0 is))
    by later Greater is =
        let rest : List (K × X) = filter (λ (x : K × X). inside x.0) es in
        let past : is_at (R k) e.0 ≡ false = ap is_eq is in
        let above : is_gt (R e.0 k) ≡ false = ap is_gt (o.antisymm e.0 k ∙ ap ordering_reverse is) in
        let later_is : IsUpTo R k (find test rest) = later (rw past at found) in
        elim (inside e.0) as (λ b. IsUpTo R k (find test (cond b (e ∷ rest) rest))) [
          | true ↦ elim (test e) as (λ b. IsUpTo R k (cond b (Some e) (find test rest))) [ true ↦ above | false ↦ later_is ]
          | false ↦ later_is
        ]
