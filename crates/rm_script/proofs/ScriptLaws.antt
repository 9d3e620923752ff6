-- What holds of all scripts: bytes spell one at most, each prefix of one is one, and one line at most is the first
-- wrong.
use Rattle.std.proofs.Common.{◌≡◌, ℕ, suc, ◌<◌, ◌≤◌, List, [], ◌∷◌, ◌++◌, length, inl, inr, refl, sym, ap, subst, ◌∙◌, arith, append_assoc, append-nil}
use Rattle.std.proofs.lemmas.Bool.{cases_order}
use Rattle.rm_types.specs.declared.numbers.TheConstants.{MAX_SESSIONS}
use Rattle.rm_events.specs.declared.lines.Line.{Line}
use Rattle.rm_events.specs.declared.lines.Word.{Word}
use Rattle.rm_script.specs.Grammar.{AreTurnLines, BeginsScript, IsEnd, IsFirstWrong, IsLeft, IsScript, lines_in}
use Rattle.rm_script.specs.Laws.{FirstWrongIsOne, ReadingsAreOne, ScriptsEndAnywhere}
use Rattle.rm_script.specs.Lines.{lines_of}
use Rattle.rm_script.specs.Operations.{IsLine}
use Rattle.rm_script.proofs.OperationLaws.{same_line}
use Rattle.rm_script.proofs.SessionsRead.{not_session, not_turns}
use Rattle.rm_script.proofs.TurnLaws.{same_turn_line}

same_turn_lines : (n : ℕ) (a b : List Word) (texts : List (List ℕ)) → n ≤ MAX_SESSIONS → AreTurnLines n a texts → AreTurnLines n b texts → a ≡ b
same_turn_lines n a b [] few p q = p ∙ sym q
same_turn_lines n a b (text ∷ texts) few p q =
    let own = same_turn_line n p.0 q.0 text few p.2 q.2 in
    let rest = same_turn_lines n p.1 q.1 texts few p.3 q.3 in
    p.4 ∙ ap (λ ws. ws ++ p.1) own ∙ ap (λ ws. q.0 ++ ws) rest ∙ sym q.4

same_end : (n : ℕ) (a b : List Word) (texts : List (List ℕ)) → n ≤ MAX_SESSIONS → IsEnd n a texts → IsEnd n b texts → a ≡ b
same_end n a b [] few p q = p ∙ sym q
same_end n a b (text ∷ texts) few p q = same_turn_lines n a b texts few p.1 q.1

-- what is left of a script is left of one alone
abbrev Same : List Line → List Line → List (List Line) → List (List Line) → List Word → List Word → Type 0
Same lines lines' sessions sessions' words words' = (lines ≡ lines') × (sessions ≡ sessions') × (words ≡ words')

same_left : (n : ℕ) (lines lines' : List Line) (sessions sessions' : List (List Line)) (words words' : List Word) (texts : List (List ℕ)) → n ≤ MAX_SESSIONS → IsLeft n lines sessions words texts → IsLeft n lines' sessions' words' texts → Same lines lines' sessions sessions' words words'
same_left n (a ∷ lines) lines' sessions sessions' words words' [] few p q = absurd p
same_left n [] (b ∷ lines') sessions sessions' words words' [] few p q = absurd q
same_left n [] [] (s ∷ sessions) sessions' words words' [] few p q = absurd p
same_left n [] [] [] (s' ∷ sessions') words words' [] few p q = absurd q
same_left n [] [] [] [] words words' texts few p q = (refl, refl, same_end n words words' texts few p q)
same_left n (a ∷ lines) (b ∷ lines') sessions sessions' words words' (text ∷ texts) few p q =
    let first = same_line a b text p.0 q.0 in
    let rest = same_left n lines lines' sessions sessions' words words' texts few p.1 q.1 in
    (ap (λ l. l ∷ lines) first ∙ ap (λ ls. b ∷ ls) rest.0, rest.1, rest.2)
same_left n (a ∷ lines) [] sessions [] words words' (text ∷ texts) few p q = absurd (not_turns a (subst (IsLine a) q.0 p.0))
same_left n (a ∷ lines) [] sessions (s' ∷ sessions') words words' (text ∷ texts) few p q = absurd (not_session a (suc n) (subst (IsLine a) q.1 p.0))
same_left n [] (b ∷ lines') [] sessions' words words' (text ∷ texts) few p q = absurd (not_turns b (subst (IsLine b) p.0 q.0))
same_left n [] (b ∷ lines') (s ∷ sessions) sessions' words words' (text ∷ texts) few p q = absurd (not_session b (suc n) (subst (IsLine b) p.1 q.0))
same_left n [] [] (s ∷ sessions) (s' ∷ sessions') words words' (text ∷ texts) few p q =
    let rest = same_left (suc n) s s' sessions sessions' words words' texts (omega (arith, p.0)) p.2 q.2 in
    (refl, ap (λ l. l ∷ sessions) rest.0 ∙ ap (λ ls. s' ∷ ls) rest.1, rest.2)
same_left n [] [] (s ∷ sessions) [] words words' (text ∷ texts) few p q = let e = sym p.1 ∙ q.0 in cc
same_left n [] [] [] (s' ∷ sessions') words words' (text ∷ texts) few p q = let e = sym q.1 ∙ p.0 in cc

pub readings_are_one : ReadingsAreOne
readings_are_one bytes script other p q =
    let same = same_left 0 [] [] (lines_in script.sessions.items) (lines_in other.sessions.items) script.words.items other.words.items (lines_of bytes) (omega arith) p q in
    (same.1, same.2)

-- the first of some turn lines are turn lines
turns_prefix : (n : ℕ) (words : List Word) (texts more : List (List ℕ)) → AreTurnLines n words (texts ++ more) → (given : List Word) × AreTurnLines n given texts
turns_prefix n words [] more h = ([], refl)
turns_prefix n words (text ∷ texts) more h = let rest = turns_prefix n h.1 texts more h.3 in (h.0 ++ rest.0, (h.0, rest.0, h.2, rest.1, refl))

-- what is left of a script may end after any line
left_prefix : (n : ℕ) (lines : List Line) (sessions : List (List Line)) (words : List Word) (texts more : List (List ℕ)) → IsLeft n lines sessions words (texts ++ more) → (own : List Line) × (others : List (List Line)) × (given : List Word) × IsLeft n own others given texts × (lines ≡ [] → own ≡ [])
left_prefix n lines sessions words [] more h = ([], [], [], refl, λ e. refl)
left_prefix n (said ∷ lines) sessions words (text ∷ texts) more h =
    let rest = left_prefix n lines sessions words texts more h.1 in (said ∷ rest.0, rest.1, rest.2, (h.0, rest.3), λ e. cc)
left_prefix n [] (lines ∷ sessions) words (text ∷ texts) more h =
    let rest = left_prefix (suc n) lines sessions words texts more h.2 in ([], rest.0 ∷ rest.1, rest.2, (h.0, h.1, rest.3), λ e. refl)
left_prefix n [] [] words (text ∷ texts) more h = let rest = turns_prefix n words texts more h.1 in ([], [], rest.0, (h.0, rest.1), λ e. refl)

pub scripts_end_anywhere : ScriptsEndAnywhere
scripts_end_anywhere texts begins =
    let prefix = left_prefix 0 [] begins.0 begins.1 texts begins.2 begins.3 in
    (prefix.1, prefix.2, subst (λ (own : List Line). IsLeft 0 own prefix.1 prefix.2 texts) (prefix.4 refl) prefix.3)

-- what begins a script has no prefix that goes wrong
begins_prefix : (texts more : List (List ℕ)) → BeginsScript (texts ++ more) → BeginsScript texts
begins_prefix texts more begins = (begins.0, begins.1, more ++ begins.2, subst (IsScript begins.0 begins.1) (append_assoc texts more begins.2) begins.3)

none_wrong : (texts right rest : List (List ℕ)) (wrong : List ℕ) → BeginsScript texts → texts ≡ right ++ wrong ∷ rest → (BeginsScript (right ++ wrong ∷ []) → ⊥) → ⊥
none_wrong texts right rest wrong begins cut goes_wrong =
    goes_wrong (begins_prefix (right ++ wrong ∷ []) rest (subst BeginsScript (cut ∙ sym (append_assoc right (wrong ∷ []) rest)) begins))

-- of two prefixes one is the other's
prefix_of : (right other rest rest' : List (List ℕ)) (wrong : List ℕ) → right ++ wrong ∷ rest ≡ other ++ rest' → length right < length other → (more : List (List ℕ)) × (other ≡ right ++ wrong ∷ more)
prefix_of [] [] rest rest' wrong e short = absurd (omega arith)
prefix_of [] (text ∷ other) rest rest' wrong e short = let same : text ≡ wrong = cc in (other, ap (λ t. t ∷ other) same)
prefix_of (text ∷ right) [] rest rest' wrong e short = absurd (omega arith)
prefix_of (text ∷ right) (first ∷ other) rest rest' wrong e short =
    let same : first ≡ text = cc in
    let prefix = prefix_of right other rest rest' wrong (cc) (omega arith) in
    (prefix.0, ap (λ t. t ∷ other) same ∙ ap (λ ts. text ∷ ts) prefix.1)

not_before : (bytes : List ℕ) (number other : ℕ) → IsFirstWrong number bytes → IsFirstWrong other bytes → number < other → ⊥
not_before bytes number other a b short =
    let prefix = prefix_of a.right b.right a.rest (b.wrong ∷ b.rest) a.wrong (sym a.cut ∙ b.cut) (omega (arith, a.is_number, b.is_number, short)) in
    none_wrong b.right a.right prefix.0 a.wrong b.begins prefix.1 a.goes_wrong

pub first_wrong_is_one : FirstWrongIsOne
first_wrong_is_one = record {
  none = λ bytes script number spells first.
      none_wrong (lines_of bytes) first.right first.rest first.wrong (lines_in script.sessions.items, script.words.items, [], rw append-nil spells) first.cut first.goes_wrong;
  one = λ bytes number other a b. elim (cases_order number other) [
    | inl same ↦ same
    | inr (inl below) ↦ absurd (not_before bytes number other a b below)
    | inr (inr above) ↦ absurd (not_before bytes other number b a above)
  ];
}
