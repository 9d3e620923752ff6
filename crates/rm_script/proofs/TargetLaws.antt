-- A text spells one target at most, and which texts spell none.
use Rattle.std.proofs.Common.{◌≡◌, ℕ, ◌^◌, ◌<◌, List, ◌∷◌, ◌++◌, get_or, codes, decimal, sym, ap, subst, ◌∙◌, arith, append_assoc}
use Rattle.std.proofs.lemmas.Fmt.{decimal_injective}
use Rattle.rm_types.specs.declared.numbers.Rid.{Rid}
use Rattle.rm_events.specs.declared.lines.Target.{Target}
use Rattle.rm_events.specs.declared.lines.Target.TheVariants as target
use Rattle.rm_script.specs.Cuts.{IsCut, Lacks}
use Rattle.rm_script.specs.Targets.{IsTarget, name_text, place}
use Rattle.rm_script.proofs.CutLaws.{same_cut, no_cut, Lacks-append, Lacks-decimal, Lacks-name_text}

pub place-cut : (rid : Rid) → place rid ≡ decimal rid.page ++ 46 ∷ decimal rid.slot
place-cut rid = append_assoc (decimal rid.page) (codes ".") (decimal rid.slot)

same_name : (m n : ℕ) → name_text m ≡ name_text n → m ≡ n
same_name m n e = omega (arith, ap (λ t. get_or t 1 0) e)

pub same_target : (a b : Target) (text : List ℕ) → IsTarget a text → IsTarget b text → a ≡ b
same_target (target.Name m) (target.Name n) text p q = ap target.Name (same_name m n (sym p.1 ∙ q.1))
same_target (target.Name m) (target.At b) text p q =
    absurd (no_cut 46 (name_text m) (decimal b.page) (decimal b.slot) (Lacks-name_text 46 m (omega arith) (omega arith)) (sym p.1 ∙ q.2 ∙ place-cut b))
same_target (target.At a) (target.Name n) text p q =
    absurd (no_cut 46 (name_text n) (decimal a.page) (decimal a.slot) (Lacks-name_text 46 n (omega arith) (omega arith)) (sym q.1 ∙ p.2 ∙ place-cut a))
same_target (target.At a) (target.At b) text p q =
    let cut = same_cut 46 (decimal a.page) (decimal a.slot) (decimal b.page) (decimal b.slot) (Lacks-decimal 46 a.page (omega arith) (omega (arith, p.0))) (Lacks-decimal 46 b.page (omega arith) (omega (arith, q.0))) (sym (place-cut a) ∙ (sym p.2 ∙ q.2) ∙ place-cut b) in
    let page = decimal_injective a.page b.page (omega (arith, p.0)) (omega (arith, q.0)) cut.0 in
    let slot = decimal_injective a.slot b.slot (omega (arith, p.1)) (omega (arith, q.1)) cut.1 in
    ap target.At (ap (λ n. record a { page = n }) page ∙ ap (λ n. record b { slot = n }) slot)

-- a target is spelled with a dot exactly where it is a row id
pub no_rid : (text page slot : List ℕ) → IsCut 46 text page slot → ((m n : ℕ) → m < 2 ^ 32 → n < 2 ^ 16 → page ≡ decimal m → slot ≡ decimal n → ⊥) → (aim : Target) → IsTarget aim text → ⊥
no_rid text page slot cut none (target.Name name) p =
    no_cut 46 (name_text name) page slot (Lacks-name_text 46 name (omega arith) (omega arith)) (sym p.1 ∙ cut.whole)
no_rid text page slot cut none (target.At rid) p =
    let same = same_cut 46 page slot (decimal rid.page) (decimal rid.slot) cut.is_first (Lacks-decimal 46 rid.page (omega arith) (omega (arith, p.0))) (sym cut.whole ∙ p.2 ∙ place-cut rid) in
    none rid.page rid.slot p.0 p.1 same.0 same.1

pub no_name : (text : List ℕ) → Lacks 46 text → ((name : ℕ) → name < 26 → text ≡ name_text name → ⊥) → (aim : Target) → IsTarget aim text → ⊥
no_name text whole none (target.Name name) p = none name p.0 p.1
no_name text whole none (target.At rid) p = no_cut 46 text (decimal rid.page) (decimal rid.slot) whole (p.2 ∙ place-cut rid)

-- a target is spelled without a space
pub Lacks-target : (aim : Target) (text : List ℕ) → IsTarget aim text → Lacks 32 text
Lacks-target (target.Name name) text p = subst (Lacks 32) (sym p.1) (Lacks-name_text 32 name (omega arith) (omega arith))
Lacks-target (target.At rid) text p =
    let page = Lacks-decimal 32 rid.page (omega arith) (omega (arith, p.0)) in
    let slot = Lacks-decimal 32 rid.slot (omega arith) (omega (arith, p.1)) in
    subst (Lacks 32) (sym (p.2 ∙ place-cut rid)) (Lacks-append 32 (decimal rid.page) (46 ∷ decimal rid.slot) page ((λ e. omega (arith, e)), slot))
