-- Where a script for `turns` goes wrong: which texts may come after those that are right.
use Rattle.std.proofs.Common.{◌≡◌, ℕ, List, [], ◌∷◌, ◌++◌, get_or, slice_get, codes, Option, Some, None, refl, sym, ap, ◌∙◌, subst, arith, append_assoc, append-nil}
use Rattle.rm_plain.specs.declared.lines.Line.{Line}
use Rattle.rm_plain.specs.declared.lines.Line.TheVariants as line
use Rattle.rm_plain.specs.Grammar.{IsLine, AreLines, IsWrong, IsSessionForm, BeginsTurns, GoesWrong, session_texts}

-- the end of every script in the form
abbrev ending : List (List ℕ)
ending = codes "turns" ∷ codes "finish 200000" ∷ []

-- the text that comes next, if one does
abbrev next_of : List (List ℕ) → Option (List ℕ)
next_of texts = slice_get texts 0

begins_with : (text : List ℕ) (texts : List (List ℕ)) → next_of texts ≡ Some text → (more : List (List ℕ)) × (texts ≡ text ∷ more)
begins_with text [] e = absurd (cc)
begins_with text (first ∷ texts) e = let same : first ≡ text = cc in (texts, ap (λ t. t ∷ texts) same)

ended : (texts : List (List ℕ)) → next_of texts ≡ None → texts ≡ []
ended [] e = refl
ended (first ∷ texts) e = absurd (cc)

-- what no script in the form goes on with is wrong
wrong_at : (right rest : List (List ℕ)) → ((lines : List Line) (more : List (List ℕ)) → IsSessionForm lines (right ++ more) → next_of rest ≡ next_of more → ⊥) → GoesWrong right rest
wrong_at right [] differ = λ lines form. differ lines [] (subst (IsSessionForm lines) (sym (append-nil right)) form) refl
wrong_at right (wrong ∷ rest) differ =
    λ begins. differ begins.0 (wrong ∷ begins.1) (subst (IsSessionForm begins.0) (append_assoc right (wrong ∷ []) begins.1) begins.2) refl

-- a prefix of a script in the form
pub begins_front : (lines : List Line) (ops right more : List (List ℕ)) → AreLines lines ops → session_texts ops ≡ right ++ more → BeginsTurns right
begins_front lines ops right more h e = (lines, more, (ops, h, sym e))

apart : (text other : List ℕ) → (get_or text 0 0 ≡ get_or other 0 0 → ⊥) → text ≡ other → ⊥
apart text other differ e = differ (ap (λ t. get_or t 0 0) e)

turns_is_wrong : IsWrong (codes "turns")
turns_is_wrong line.Begin p = apart _ _ (λ e. omega (arith, e)) p
turns_is_wrong (line.Insert name row) p = apart _ _ (λ e. omega (arith, e)) p.1.2
turns_is_wrong (line.Read aim) p = apart _ _ (λ e. omega (arith, e)) p.2
turns_is_wrong line.Commit p = apart _ _ (λ e. omega (arith, e)) p

-- after some of its operations a script in the form has the others and its end
after : (lines others : List Line) (ops inner more : List (List ℕ)) → AreLines lines ops → AreLines others inner → ops ++ more ≡ inner ++ ending → (left : List Line) × (texts : List (List ℕ)) × AreLines left texts × (more ≡ texts ++ ending)
after [] others [] inner more h h' e = (others, inner, h', e)
after (said ∷ lines) others [] inner more h h' e = absurd h
after [] others (text ∷ ops) inner more h h' e = absurd h
after (said ∷ lines) [] (text ∷ ops) [] more h h' e =
    let same : text ≡ codes "turns" = cc in absurd (turns_is_wrong said (subst (IsLine said) same h.0))
after (said ∷ lines) (other ∷ others) (text ∷ ops) [] more h h' e = absurd h'
after (said ∷ lines) [] (text ∷ ops) (first ∷ inner) more h h' e = absurd h'
after (said ∷ lines) (other ∷ others) (text ∷ ops) (first ∷ inner) more h h' e =
    let tails : ops ++ more ≡ inner ++ ending = cc in after lines others ops inner more h.1 h'.1 tails

-- after its session's number and some of its operations
form_after : (lines others : List Line) (ops more : List (List ℕ)) → AreLines lines ops → IsSessionForm others (codes "session 1" ∷ ops ++ more) → (left : List Line) × (texts : List (List ℕ)) × AreLines left texts × (more ≡ texts ++ ending)
form_after lines others ops more h form =
    let tails : ops ++ more ≡ form.0 ++ ending = let e = form.2 in cc in after lines others ops form.0 more h form.1 tails

-- after `turns` no operation comes
no_more_lines : (left : List Line) (texts more : List (List ℕ)) → AreLines left texts → codes "turns" ∷ more ≡ texts ++ ending → more ≡ codes "finish 200000" ∷ []
no_more_lines [] [] more h e = cc
no_more_lines (said ∷ left) [] more h e = absurd h
no_more_lines [] (text ∷ texts) more h e = absurd h
no_more_lines (said ∷ left) (text ∷ texts) more h e =
    let same : text ≡ codes "turns" = cc in absurd (turns_is_wrong said (subst (IsLine said) same h.0))

form_after_turns : (lines others : List Line) (ops more : List (List ℕ)) → AreLines lines ops → IsSessionForm others (codes "session 1" ∷ ops ++ codes "turns" ∷ more) → more ≡ codes "finish 200000" ∷ []
form_after_turns lines others ops more h form =
    let left = form_after lines others ops (codes "turns" ∷ more) h form in no_more_lines left.0 left.1 more left.2 left.3

-- a script begins with its session's number
pub wrong_session : (rest : List (List ℕ)) → ((texts : List (List ℕ)) → rest ≡ codes "session 1" ∷ texts → ⊥) → GoesWrong [] rest
wrong_session rest lacks = wrong_at [] rest (λ lines more form same.
    let next : next_of rest ≡ Some (codes "session 1") = same ∙ ap next_of form.2 in
    let found = begins_with (codes "session 1") rest next in lacks found.0 found.1)

turns_comes : (left : List Line) (texts rest more : List (List ℕ)) → AreLines left texts → more ≡ texts ++ ending → next_of rest ≡ next_of more → ((said : Line) (text : List ℕ) (others : List (List ℕ)) → rest ≡ text ∷ others → IsLine said text → ⊥) → ((others : List (List ℕ)) → rest ≡ codes "turns" ∷ others → ⊥) → ⊥
turns_comes [] [] rest more h e same stops lacks =
    let found = begins_with (codes "turns") rest (same ∙ ap next_of e) in lacks found.0 found.1
turns_comes (said ∷ left) [] rest more h e same stops lacks = h
turns_comes [] (text ∷ texts) rest more h e same stops lacks = h
turns_comes (said ∷ left) (text ∷ texts) rest more h e same stops lacks =
    let found = begins_with text rest (same ∙ ap next_of e) in stops said text found.0 found.1 h.0

-- after its operations comes `turns`
pub wrong_turns : (lines : List Line) (ops rest : List (List ℕ)) → AreLines lines ops → ((said : Line) (text : List ℕ) (texts : List (List ℕ)) → rest ≡ text ∷ texts → IsLine said text → ⊥) → ((texts : List (List ℕ)) → rest ≡ codes "turns" ∷ texts → ⊥) → GoesWrong (codes "session 1" ∷ ops) rest
wrong_turns lines ops rest h stops lacks = wrong_at (codes "session 1" ∷ ops) rest (λ others more form same.
    let left = form_after lines others ops more h form in turns_comes left.0 left.1 rest more left.2 left.3 same stops lacks)

-- then the number of turns
pub wrong_finish : (lines : List Line) (ops rest : List (List ℕ)) → AreLines lines ops → ((texts : List (List ℕ)) → rest ≡ codes "finish 200000" ∷ texts → ⊥) → GoesWrong (codes "session 1" ∷ ops ++ codes "turns" ∷ []) rest
wrong_finish lines ops rest h lacks = wrong_at (codes "session 1" ∷ ops ++ codes "turns" ∷ []) rest (λ others more form same.
    let whole : IsSessionForm others (codes "session 1" ∷ ops ++ codes "turns" ∷ more) = subst (λ (ts : List (List ℕ)). IsSessionForm others (codes "session 1" ∷ ts)) (append_assoc ops (codes "turns" ∷ []) more) form in
    let found = begins_with (codes "finish 200000") rest (same ∙ ap next_of (form_after_turns lines others ops more h whole)) in lacks found.0 found.1)

-- and nothing more
pub wrong_end : (lines : List Line) (ops rest : List (List ℕ)) → AreLines lines ops → (rest ≡ [] → ⊥) → GoesWrong (session_texts ops) rest
wrong_end lines ops rest h some = wrong_at (session_texts ops) rest (λ others more form same.
    let whole : IsSessionForm others (codes "session 1" ∷ ops ++ codes "turns" ∷ (codes "finish 200000" ∷ more)) = subst (λ (ts : List (List ℕ)). IsSessionForm others (codes "session 1" ∷ ts)) (append_assoc ops ending more) form in
    let last = form_after_turns lines others ops (codes "finish 200000" ∷ more) h whole in
    let none : more ≡ [] = cc in some (ended rest (same ∙ ap next_of none)))
