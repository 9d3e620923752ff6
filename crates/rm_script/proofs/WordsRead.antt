-- The words of a turn line, as they are read one after another.
use Rattle.std.proofs.Common.{◌≡◌, ℕ, List, [], ◌∷◌, ◌++◌, ◌^◌, ◌<◌, ◌≤◌, inr, codes, decimal, refl, sym, ap, subst, ◌∙◌, append_assoc, append-nil, Bool, true, false, IfOk, MatchBool, Result}
use Rattle.std.specs.List.{AllZip, onto_first}
use Rattle.std.proofs.lemmas.Result.{IfOk-weaker}
use Rattle.rm_events.specs.declared.lines.Word.{Word}
use Rattle.rm_types.specs.declared.numbers.TheConstants.{MAX_SESSIONS}
use Rattle.rm_script.specs.Cuts.{IsCut, Lacks}
use Rattle.rm_script.specs.Reading.{Puts, PutsWord}
use Rattle.rm_script.specs.Turns.{AreWords, IsFinish, IsTurnLine, IsWord, parts}
use Rattle.rm_script.proofs.LinesOf.{other_byte}
use Rattle.rm_script.proofs.TurnLaws.{only_rounds}

-- up to the first space a text is its first part
parts-cut : (text first after : List ℕ) → IsCut 32 text first after → parts text ≡ first ∷ parts after
parts-cut text first after cut = ap parts cut.whole ∙ from first cut.is_first where
  from : (first : List ℕ) → Lacks 32 first → parts (first ++ 32 ∷ after) ≡ first ∷ parts after
  from [] lacks = refl
  from (byte ∷ first) lacks = other_byte byte 32 _ _ lacks.0 ∙ ap (onto_first byte) (from first lacks.1)

-- without a space it is the one part
parts-lone : (text : List ℕ) → Lacks 32 text → parts text ≡ text ∷ []
parts-lone [] lacks = refl
parts-lone (byte ∷ text) lacks = other_byte byte 32 _ _ lacks.0 ∙ ap (onto_first byte) (parts-lone text lacks.1)

-- the parts before what is left spell the words that were put
abbrev pub HasPut : ℕ → List ℕ → List Word → List Word → List ℕ → Type 0
HasPut n text old new rest = (own : List Word) × (right : List (List ℕ)) × AllZip (IsWord n) own right × (parts text ≡ right ++ parts rest) × (new ≡ old ++ own)

pub put_none : (n : ℕ) (text : List ℕ) (old : List Word) → HasPut n text old old text
put_none n text old = ([], [], tt, refl, sym (append-nil old))

AreWords-push : (n : ℕ) (own : List Word) (right : List (List ℕ)) (given : Word) (text : List ℕ) → AllZip (IsWord n) own right → IsWord n given text → AllZip (IsWord n) (own ++ given ∷ []) (right ++ text ∷ [])
AreWords-push n [] [] given text h w = (w, tt)
AreWords-push n [] (other ∷ right) given text h w = absurd h
AreWords-push n (a ∷ own) [] given text h w = absurd h
AreWords-push n (a ∷ own) (other ∷ right) given text h w = (h.0, AreWords-push n own right given text h.1 w)

-- one word more
put_next : (n : ℕ) (text rest first : List ℕ) (after : List (List ℕ)) (old mid new : List Word) → HasPut n text old mid rest → parts rest ≡ first ∷ after → PutsWord n first mid new → (own : List Word) × (right : List (List ℕ)) × AllZip (IsWord n) own right × (parts text ≡ right ++ after) × (new ≡ old ++ own)
put_next n text rest first after old mid new h cut word = (
  h.0 ++ word.0 ∷ [],
  h.1 ++ first ∷ [],
  AreWords-push n h.0 h.1 word.0 first h.2 word.1,
  h.3 ∙ ap (λ ts. h.1 ++ ts) cut ∙ sym (append_assoc h.1 (first ∷ []) after),
  word.2 ∙ ap (λ ws. ws ++ word.0 ∷ []) h.4 ∙ append_assoc old h.0 (word.0 ∷ []),
)

pub put_more : (n : ℕ) (text rest first after : List ℕ) (old mid new : List Word) → HasPut n text old mid rest → IsCut 32 rest first after → PutsWord n first mid new → HasPut n text old new after
put_more n text rest first after old mid new h cut word = put_next n text rest first (parts after) old mid new h (parts-cut rest first after cut) word

pub put_last : (n : ℕ) (text rest : List ℕ) (old mid new : List Word) → HasPut n text old mid rest → Lacks 32 rest → PutsWord n rest mid new → Puts (λ own. AreWords n own text) old new
put_last n text rest old mid new h lacks word =
    let all = put_next n text rest rest [] old mid new h (parts-lone rest lacks) word in
    (all.0, subst (λ (ts : List (List ℕ)). AllZip (IsWord n) all.0 ts) (sym (all.3 ∙ append-nil all.1)) all.2, all.4)

-- each of the parts of a text spells a word
word_at : (n : ℕ) (own : List Word) (right : List (List ℕ)) (first : List ℕ) (after : List (List ℕ)) → AllZip (IsWord n) own (right ++ first ∷ after) → (given : Word) × IsWord n given first
word_at n [] [] first after h = absurd h
word_at n [] (text ∷ right) first after h = absurd h
word_at n (given ∷ own) [] first after h = (given, h.0)
word_at n (given ∷ own) (text ∷ right) first after h = word_at n own right first after h.1

wrong_part : (n : ℕ) (text rest first : List ℕ) (after : List (List ℕ)) (old mid : List Word) → HasPut n text old mid rest → parts rest ≡ first ∷ after → ((given : Word) → IsWord n given first → ⊥) → (own : List Word) → AreWords n own text → ⊥
wrong_part n text rest first after old mid h cut none own words =
    let at = word_at n own h.1 first after (subst (AllZip (IsWord n) own) (h.3 ∙ ap (λ ts. h.1 ++ ts) cut) words) in none at.0 at.1

pub wrong_word : (n : ℕ) (text rest first after : List ℕ) (old mid : List Word) → HasPut n text old mid rest → IsCut 32 rest first after → ((given : Word) → IsWord n given first → ⊥) → (own : List Word) → AreWords n own text → ⊥
wrong_word n text rest first after old mid h cut none = wrong_part n text rest first (parts after) old mid h (parts-cut rest first after cut) none

pub wrong_last : (n : ℕ) (text rest : List ℕ) (old mid : List Word) → HasPut n text old mid rest → Lacks 32 rest → ((given : Word) → IsWord n given rest → ⊥) → (own : List Word) → AreWords n own text → ⊥
wrong_last n text rest old mid h lacks none = wrong_part n text rest rest [] old mid h (parts-lone rest lacks) none

MatchBool-weaker : (b : Bool) (P Q P' Q' : Type 0) → (P → P') → (Q → Q') → MatchBool b P Q → MatchBool b P' Q'
MatchBool-weaker true P Q P' Q' f g h = f h
MatchBool-weaker false P Q P' Q' f g h = g h

-- what the last word's reader answered is the answer for all
pub answered_last : {E : Type 0} (n : ℕ) (text rest : List ℕ) (old mid new : List Word) (r : Result Bool E) → HasPut n text old mid rest → Lacks 32 rest → IfOk r (λ b. MatchBool b (PutsWord n rest mid new) ((new ≡ mid) × ((given : Word) → IsWord n given rest → ⊥))) → IfOk r (λ b. MatchBool b (Puts (λ own. AreWords n own text) old new) (Puts (λ own. Unit {0}) old new × ((own : List Word) → AreWords n own text → ⊥)))
answered_last n text rest old mid new r h lacks answered =
    IfOk-weaker r _ _ (λ b. MatchBool-weaker b _ _ _ _ (put_last n text rest old mid new h lacks) (λ none. ((h.0, tt, none.0 ∙ h.4), wrong_last n text rest old mid h lacks none.1))) answered

-- what the reader of rounds answered is the answer for the turn line
pub answered_finish : {E : Type 0} (n : ℕ) (text rounds : List ℕ) (old new : List Word) (r : Result Bool E) → n ≤ MAX_SESSIONS → text ≡ codes "finish " ++ rounds → IfOk r (λ b. MatchBool b (Puts (λ own. IsFinish own (codes "finish " ++ rounds)) old new) ((new ≡ old) × ((number : ℕ) → number < 2 ^ 32 → rounds ≡ decimal number → ⊥))) → IfOk r (λ b. MatchBool b (Puts (λ own. IsTurnLine n own text) old new) ((new ≡ old) × ((own : List Word) → IsTurnLine n own text → ⊥)))
answered_finish n text rounds old new r few e answered =
    IfOk-weaker r _ _ (λ b. MatchBool-weaker b _ _ _ _ (λ put. (put.0, inr (subst (IsFinish put.0) (sym e) put.1), put.2)) (λ none. (none.0, only_rounds n text rounds few e none.1))) answered
