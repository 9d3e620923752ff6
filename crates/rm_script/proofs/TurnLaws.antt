-- A turn line spells one list of words at most, and which texts spell none.
use Rattle.std.proofs.Common.{◌≡◌, ℕ, ◌<◌, ◌^◌, ◌≤◌, List, [], ◌∷◌, ◌++◌, inl, inr, get_or, drop, codes, decimal, refl, sym, ap, subst, ◌∙◌, arith}
use Rattle.std.specs.List.{AllZip}
use Rattle.std.proofs.lemmas.Fmt.{decimal_injective}
use Rattle.rm_events.specs.declared.events.Actor.{Actor}
use Rattle.rm_events.specs.declared.events.Actor.TheVariants as actor
use Rattle.rm_events.specs.declared.lines.Word.{Word}
use Rattle.rm_events.specs.declared.lines.Word.TheVariants as word
use Rattle.rm_types.specs.declared.numbers.TheConstants.{MAX_SESSIONS}
use Rattle.rm_script.specs.declared.limits.TheConstants.{MAX_TURNS}
use Rattle.rm_script.specs.Cuts.{IsCut, Lacks}
use Rattle.rm_script.specs.Turns.{AreWords, IsActor, IsTurnLine, IsWord}
use Rattle.rm_script.proofs.CutLaws.{same_cut, no_cut, Lacks-decimal, Lacks-from_test}
use Rattle.rm_script.proofs.Numbers.{first_digit}

-- an actor is named without a star
Lacks-actor : (n : ℕ) (who : Actor) (text : List ℕ) → n ≤ MAX_SESSIONS → IsActor n who text → Lacks 42 text
Lacks-actor n (actor.Session number) text few p = subst (Lacks 42) (sym p.2) (Lacks-decimal 42 number (omega arith) (omega (arith, p.1)))
Lacks-actor n actor.Flush text few p = subst (Lacks 42) (sym p) ((λ e. omega (arith, e)), tt)
Lacks-actor n actor.Clean text few p = absurd p
Lacks-actor n actor.Checkpoint text few p = absurd p
Lacks-actor n actor.Copy text few p = absurd p

-- a word with a star is an actor and a count
parts_of : (n : ℕ) (who : Actor) (turns : ℕ) (text name count : List ℕ) → n ≤ MAX_SESSIONS → IsCut 42 text name count → IsWord n (word.Turns who turns) text → IsActor n who name × (0 < turns) × (turns ≤ MAX_TURNS) × (count ≡ decimal turns)
parts_of n who turns text name count few cut p = elim p.4 [
  | inl lone ↦ absurd (no_cut 42 p.0 name count (Lacks-actor n who p.0 few p.1) (sym lone.1 ∙ cut.whole))
  | inr e ↦
      let same = same_cut 42 name count p.0 (decimal turns) cut.is_first (Lacks-actor n who p.0 few p.1) (sym cut.whole ∙ e) in
      (subst (IsActor n who) (sym same.0) p.1, p.2, p.3, same.1)
]

-- a word without a star is an actor
alone : (n : ℕ) (who : Actor) (turns : ℕ) (text : List ℕ) → Lacks 42 text → IsWord n (word.Turns who turns) text → IsActor n who text × (turns ≡ 1)
alone n who turns text lacks p = elim p.4 [
  | inl lone ↦ (subst (IsActor n who) (sym lone.1) p.1, lone.0)
  | inr e ↦ absurd (no_cut 42 text p.0 (decimal turns) lacks e)
]

pub no_actor_alone : (n : ℕ) (text : List ℕ) → Lacks 42 text → ((who : Actor) → IsActor n who text → ⊥) → (given : Word) → IsWord n given text → ⊥
no_actor_alone n text lacks none (word.Turns who turns) p = none who (alone n who turns text lacks p).0
no_actor_alone n text lacks none (word.Finish rounds) p = p

pub no_actor : (n : ℕ) (text name count : List ℕ) → n ≤ MAX_SESSIONS → IsCut 42 text name count → ((who : Actor) → IsActor n who name → ⊥) → (given : Word) → IsWord n given text → ⊥
no_actor n text name count few cut none (word.Turns who turns) p = none who (parts_of n who turns text name count few cut p).0
no_actor n text name count few cut none (word.Finish rounds) p = p

pub no_turns : (n : ℕ) (text name count : List ℕ) → n ≤ MAX_SESSIONS → IsCut 42 text name count → ((turns : ℕ) → 0 < turns → turns ≤ MAX_TURNS → count ≡ decimal turns → ⊥) → (given : Word) → IsWord n given text → ⊥
no_turns n text name count few cut none (word.Turns who turns) p =
    let parts = parts_of n who turns text name count few cut p in none turns parts.1 parts.2 parts.3
no_turns n text name count few cut none (word.Finish rounds) p = p

no_actor_finish : (n : ℕ) (who : Actor) (text : List ℕ) → n ≤ MAX_SESSIONS → text ≡ codes "finish" → IsActor n who text → ⊥
no_actor_finish n (actor.Session number) text few e p =
    omega (arith, first_digit number (omega (arith, p.1)), ap (λ t. get_or t 0 0) (sym e ∙ p.2))
no_actor_finish n actor.Flush text few e p = omega (arith, ap (λ t. get_or t 1 0) (sym e ∙ p))
no_actor_finish n actor.Clean text few e p = p
no_actor_finish n actor.Checkpoint text few e p = p
no_actor_finish n actor.Copy text few e p = p

-- what begins as the word of rounds does is no other words
no_words : (n : ℕ) (rounds : List ℕ) (own : List Word) → n ≤ MAX_SESSIONS → AreWords n own (codes "finish " ++ rounds) → ⊥
no_words n rounds [] few h = h
no_words n rounds (word.Turns who turns ∷ own) few h =
    no_actor_finish n who (codes "finish") few refl (alone n who turns (codes "finish") (Lacks-from_test 42 (codes "finish") refl) h.0).0
no_words n rounds (word.Finish times ∷ own) few h = h.0

pub only_words : (n : ℕ) (text : List ℕ) → ((rounds : List ℕ) → text ≡ codes "finish " ++ rounds → ⊥) → ((own : List Word) → AreWords n own text → ⊥) → (own : List Word) → IsTurnLine n own text → ⊥
only_words n text other none own (inl h) = none own h
only_words n text other none own (inr h) = other (decimal h.0) h.3

pub only_rounds : (n : ℕ) (text rounds : List ℕ) → n ≤ MAX_SESSIONS → text ≡ codes "finish " ++ rounds → ((number : ℕ) → number < 2 ^ 32 → rounds ≡ decimal number → ⊥) → (own : List Word) → IsTurnLine n own text → ⊥
only_rounds n text rounds few e none own (inl h) = no_words n rounds own few (subst (AreWords n own) e h)
only_rounds n text rounds few e none own (inr h) = none h.0 h.1 (ap (drop 7) (sym e ∙ h.3))

-- no text spells two actors
same_actor : (n : ℕ) (a b : Actor) (text : List ℕ) → n ≤ MAX_SESSIONS → IsActor n a text → IsActor n b text → a ≡ b
same_actor n (actor.Session k) (actor.Session m) text few p q = ap actor.Session (decimal_injective k m (omega (arith, p.1)) (omega (arith, q.1)) (sym p.2 ∙ q.2))
same_actor n (actor.Session k) actor.Flush text few p q = absurd (omega (arith, first_digit k (omega (arith, p.1)), ap (λ t. get_or t 0 0) (sym q ∙ p.2)))
same_actor n actor.Flush (actor.Session m) text few p q = absurd (omega (arith, first_digit m (omega (arith, q.1)), ap (λ t. get_or t 0 0) (sym p ∙ q.2)))
same_actor n actor.Flush actor.Flush text few p q = refl
same_actor n actor.Clean b text few p q = absurd p
same_actor n actor.Checkpoint b text few p q = absurd p
same_actor n actor.Copy b text few p q = absurd p
same_actor n a actor.Clean text few p q = absurd q
same_actor n a actor.Checkpoint text few p q = absurd q
same_actor n a actor.Copy text few p q = absurd q

-- nor two words
same_word : (n : ℕ) (a b : Word) (text : List ℕ) → n ≤ MAX_SESSIONS → IsWord n a text → IsWord n b text → a ≡ b
same_word n (word.Finish r) b text few p q = absurd p
same_word n (word.Turns who k) (word.Finish r) text few p q = absurd q
same_word n (word.Turns who k) (word.Turns other m) text few p q = elim p.4 [
  | inl lone ↦
      let alone_too = alone n other m text (subst (Lacks 42) (sym lone.1) (Lacks-actor n who p.0 few p.1)) q in
      both (same_actor n who other text few (subst (IsActor n who) (sym lone.1) p.1) alone_too.0) (lone.0 ∙ sym alone_too.1)
  | inr e ↦
      let parts = parts_of n other m text p.0 (decimal k) few (record { whole = e; is_first = Lacks-actor n who p.0 few p.1 }) q in
      both (same_actor n who other p.0 few p.1 parts.0) (decimal_injective k m (omega (arith, p.3)) (omega (arith, parts.2)) parts.3)
] where
  both : who ≡ other → k ≡ m → word.Turns who k ≡ word.Turns other m
  both e e' = ap (λ a. word.Turns a k) e ∙ ap (word.Turns other) e'

same_words : (n : ℕ) (a b : List Word) (texts : List (List ℕ)) → n ≤ MAX_SESSIONS → AllZip (IsWord n) a texts → AllZip (IsWord n) b texts → a ≡ b
same_words n [] [] [] few p q = refl
same_words n [] [] (text ∷ texts) few p q = absurd p
same_words n [] (w ∷ b) [] few p q = absurd q
same_words n [] (w ∷ b) (text ∷ texts) few p q = absurd p
same_words n (v ∷ a) b [] few p q = absurd p
same_words n (v ∷ a) [] (text ∷ texts) few p q = absurd q
same_words n (v ∷ a) (w ∷ b) (text ∷ texts) few p q =
    ap (λ first. first ∷ a) (same_word n v w text few p.0 q.0) ∙ ap (λ rest. w ∷ rest) (same_words n a b texts few p.1 q.1)

-- nor is a turn line one of two lists of words
pub same_turn_line : (n : ℕ) (a b : List Word) (text : List ℕ) → n ≤ MAX_SESSIONS → IsTurnLine n a text → IsTurnLine n b text → a ≡ b
same_turn_line n a b text few (inl p) (inl q) = same_words n a b _ few p q
same_turn_line n a b text few (inl p) (inr q) = absurd (no_words n (decimal q.0) a few (subst (AreWords n a) q.3 p))
same_turn_line n a b text few (inr p) (inl q) = absurd (no_words n (decimal p.0) b few (subst (AreWords n b) p.3 q))
same_turn_line n a b text few (inr p) (inr q) =
    let rounds = decimal_injective p.0 q.0 (omega (arith, p.1)) (omega (arith, q.1)) (ap (drop 7) (sym p.3 ∙ q.3)) in
    p.2 ∙ ap (λ r. word.Finish r ∷ []) rounds ∙ sym q.2
