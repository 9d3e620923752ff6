-- Which calls are listed.
use Rattle.std.proofs.Common.{◌≡◌, ◌≤◌, ◌<◌, length, get_or, set, take, drop, add-zero, ℕ, ◌+◌, ◌-◌, ◌==◌, ◌||◌, Bool, List, [], ◌∷◌, ◌++◌, map, refl, sym, ◌∙◌, ap, arith}
use Rattle.std.specs.List.{list_any}
use Rattle.std.proofs.lemmas.List.{take_more_set, map_more, drop-set-lt, drop-drop, get_or-drop}
use Rattle.std.proofs.lemmas.Bool.Decides.{nat_tests}

fallen_eq : (k n : ℕ) → 1 ≤ n → (k - 1 == n) ≡ (k == n + 1)
fallen_eq k n from = grind (arith, nat_tests)

-- one call later each is one nearer
pub listed_later : (calls : List ℕ) (n : ℕ) → 1 ≤ n → list_any (λ k. k == n) (map (λ k. k - 1) calls) ≡ list_any (λ k. k == n + 1) calls
listed_later [] n from = refl
listed_later (k ∷ calls) n from = ap (λ (b : Bool). b || list_any (λ j. j == n) (map (λ j. j - 1) calls)) (fallen_eq k n from) ∙ ap (λ (b : Bool). (k == n + 1) || b) (listed_later calls n from)

-- the next number has fallen
pub fallen_more : (old now : List ℕ) (i y : ℕ) → i < length old → i < length now → y ≡ get_or now i 0 - 1 → take i now ≡ map (λ n. n - 1) (take i old) → drop i now ≡ drop i old
    → take (i + 1) (set now i y) ≡ map (λ n. n - 1) (take (i + 1) old)
fallen_more old now i y in_old in_now is fallen same =
    let here : get_or now i 0 ≡ get_or old i 0 = ap (λ (j : ℕ). get_or now j 0) (sym (add-zero i)) ∙ sym (get_or-drop i now 0 0) ∙ ap (λ (l : List ℕ). get_or l 0 0) same ∙ get_or-drop i old 0 0 ∙ ap (λ (j : ℕ). get_or old j 0) (add-zero i) in
    take_more_set now i y in_now ∙ ap (λ (l : List ℕ). l ++ y ∷ []) fallen ∙ ap (λ (z : ℕ). map (λ n. n - 1) (take i old) ++ z ∷ []) (is ∙ ap (λ (m : ℕ). m - 1) here) ∙ sym (map_more (λ n. n - 1) old i 0 in_old)

pub rest_more : (old now : List ℕ) (i y : ℕ) → drop i now ≡ drop i old → drop (i + 1) (set now i y) ≡ drop (i + 1) old
rest_more old now i y same = drop-set-lt (i + 1) now i y (omega arith) ∙ sym (drop-drop 1 i now) ∙ ap (λ (l : List ℕ). drop 1 l) same ∙ drop-drop 1 i old
