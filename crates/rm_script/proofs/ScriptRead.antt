-- A whole script, by how far its sessions and its turn lines were read.
use Rattle.std.proofs.Common.{◌≡◌, ℕ, suc, ◌+◌, ◌-◌, ◌<◌, List, [], ◌∷◌, ◌++◌, length, codes, Result, Ok, Err, IfOk, refl, sym, ap, subst, ◌∙◌, arith, append_assoc, append-nil, length-append}
use Rattle.rm_types.specs.declared.numbers.TheConstants.{MAX_SESSIONS}
use Rattle.rm_events.specs.declared.lines.Line.{Line}
use Rattle.rm_events.specs.declared.lines.Word.{Word}
use Rattle.rm_script.specs.Grammar.{AreTurnLines, IsEnd, IsFirstWrong, IsLeft, IsScript, session_text}
use Rattle.rm_script.specs.Lines.{lines_of}
use Rattle.rm_script.specs.Reading.{AreSessions, HasEnd, HasRead, IsSomeTurnLine, SessionsStop, StopsAt}
use Rattle.rm_script.proofs.FirstLines.{lines_are_left}
use Rattle.rm_script.proofs.LinesRead.{turn_line_at}

-- two facts of what was returned, together
pub IfOk-both : {X E : Type 0} (r : Result X E) (P Q R : X → Type 0) → ((x : X) → P x → Q x → R x) → IfOk r P → IfOk r Q → IfOk r R
IfOk-both (Ok x) P Q R f p q = f x p q
IfOk-both (Err e) P Q R f p q = tt

-- `turns` and turn lines
pub turns_end : (n : ℕ) (bytes after rest : List ℕ) (words : List Word) → lines_of bytes ≡ codes "turns" ∷ lines_of after → HasRead (AreTurnLines n words) after rest → StopsAt (IsSomeTurnLine n) (lines_of rest) → HasEnd n words bytes rest
turns_end n bytes after rest words first h stops = record {
  right = codes "turns" ∷ h.0;
  spelled = (refl, h.1);
  cut = first ∙ ap (λ ts. codes "turns" ∷ ts) h.2;
  stops = λ text p more e. stops text (turn_line_at n p.0 h.0 text p.1 p.2.1) more e;
}

-- what was read is a script
read_is : (n : ℕ) (sessions : List (List Line)) (words : List Word) (right end : List (List ℕ)) → AreSessions n sessions right → IsEnd n words end → IsScript sessions words (right ++ end)
read_is n sessions words right end h spelled = subst (λ (all : List (List Line)). IsScript all words (right ++ end)) (append-nil sessions) (h.goes_on [] words end spelled)

-- and all of the bytes, where nothing is left
pub all_read : (n : ℕ) (sessions : List (List Line)) (words : List Word) (bytes rest left : List ℕ) → HasRead (AreSessions n sessions) bytes rest → HasEnd n words rest left → left ≡ [] → IsScript sessions words (lines_of bytes)
all_read n sessions words bytes rest left h end none =
    let whole : lines_of bytes ≡ h.0 ++ end.right = h.2 ∙ ap (λ ts. h.0 ++ ts) (end.cut ∙ ap (λ bs. end.right ++ lines_of bs) none ∙ append-nil end.right) in
    rw whole (read_is n sessions words h.0 end.right h.1 end.spelled)

-- which text comes first does not depend on what comes after the wrong one
same_first : (P : List ℕ → Type 0) (right : List (List ℕ)) (wrong : List ℕ) (after more : List (List ℕ)) → StopsAt P (right ++ wrong ∷ after) → StopsAt P (right ++ wrong ∷ more)
same_first P [] wrong after more stops = λ text p rest e. let same : wrong ≡ text = cc in stops text p after (ap (λ t. t ∷ after) same)
same_first P (first ∷ right) wrong after more stops = λ text p rest e. let same : first ≡ text = cc in stops text p (right ++ wrong ∷ after) (ap (λ t. t ∷ (right ++ wrong ∷ after)) same)

-- a further session begins with its own line
session_first : (n : ℕ) (lines : List Line) (others : List (List Line)) (words : List Word) (texts : List (List ℕ)) → (n < MAX_SESSIONS → StopsAt (λ text. text ≡ session_text (suc n)) texts) → IsLeft n [] (lines ∷ others) words texts → ⊥
session_first n lines others words [] stops left = left
session_first n lines others words (text ∷ texts) stops left = stops left.0 text left.1 texts refl

no_script : (n : ℕ) (others : List (List Line)) (words : List Word) (right : List (List ℕ)) (wrong : List ℕ) (after more : List (List ℕ)) → SessionsStop n (right ++ wrong ∷ after) → (IsEnd n words (right ++ wrong ∷ more) → ⊥) → IsLeft n [] others words (right ++ wrong ∷ more) → ⊥
no_script n [] words right wrong after more stop end left = end left
no_script n (lines ∷ others) words right wrong after more stop end left =
    session_first n lines others words (right ++ wrong ∷ more) (λ few. same_first _ right wrong after more (λ text is rest e. stop.no_session few rest (e ∙ ap (λ t. t ∷ rest) is))) left

wrong_next : (n : ℕ) (sessions : List (List Line)) (words : List Word) (bytes rest left : List ℕ) (number : ℕ) (next : List (List ℕ)) → HasRead (AreSessions n sessions) bytes rest → SessionsStop n (lines_of rest) → HasEnd n words rest left → lines_of left ≡ next → (next ≡ [] → ⊥) → number ≡ length (lines_of bytes) - length next + 1 → IsFirstWrong number bytes
wrong_next n sessions words bytes rest left number [] h stop end is some e = absurd (some refl)
wrong_next n sessions words bytes rest left number (wrong ∷ after) h stop end is some e =
    let rest_is : lines_of rest ≡ end.right ++ wrong ∷ after = end.cut ∙ ap (λ ts. end.right ++ ts) is in
    let cut : lines_of bytes ≡ (h.0 ++ end.right) ++ wrong ∷ after = h.2 ∙ ap (λ ts. h.0 ++ ts) rest_is ∙ sym (append_assoc h.0 end.right (wrong ∷ after)) in
    let stop : SessionsStop n (end.right ++ wrong ∷ after) = subst (SessionsStop n) rest_is stop in
    record {
      right = h.0 ++ end.right;
      wrong = wrong;
      rest = after;
      cut = cut;
      begins = (sessions, words, [], rw append-nil (read_is n sessions words h.0 end.right h.1 end.spelled));
      goes_wrong = λ begins.
          let more = begins.2 in
          let texts : ((h.0 ++ end.right) ++ wrong ∷ []) ++ more ≡ h.0 ++ (end.right ++ wrong ∷ more) = append_assoc (h.0 ++ end.right) (wrong ∷ []) more ∙ append_assoc h.0 end.right (wrong ∷ more) in
          let next = h.1.is_left begins.0 begins.1 (end.right ++ wrong ∷ more) (λ some. same_first _ end.right wrong after more (stop.no_line some)) (subst (IsScript begins.0 begins.1) texts begins.3) in
          no_script n next.0 begins.1 end.right wrong after more stop (λ ends. end.stops wrong (begins.1, more, ends) after is) next.1;
      is_number = omega (arith, e, ap length cut, length-append (h.0 ++ end.right) (wrong ∷ after));
    }

-- where something is left, its first line is the first wrong one
pub first_wrong : (n : ℕ) (sessions : List (List Line)) (words : List Word) (bytes rest left : List ℕ) (number : ℕ) → HasRead (AreSessions n sessions) bytes rest → SessionsStop n (lines_of rest) → HasEnd n words rest left → 0 < length left → number ≡ length (lines_of bytes) - length (lines_of left) + 1 → IsFirstWrong number bytes
first_wrong n sessions words bytes rest left number h stop end some e =
    wrong_next n sessions words bytes rest left number (lines_of left) h stop end refl (lines_are_left left some) e
