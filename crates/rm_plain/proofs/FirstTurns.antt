-- The first wrong line of a script for `turns`, by how far it was read.
use Rattle.std.proofs.Common.{◌≡◌, ℕ, ◌+◌, List, [], ◌∷◌, ◌++◌, length, codes, refl, sym, ap, ◌∙◌, arith, append_assoc, append-nil, length-append}
use Rattle.rm_plain.specs.declared.lines.Line.{Line}
use Rattle.rm_plain.specs.Grammar.{AreLines, IsTurns, IsFirstWrongTurns, session_texts}
use Rattle.rm_script.specs.Lines.{lines_of}
use Rattle.rm_plain.proofs.WrongTurns.{begins_front, wrong_session, wrong_turns, wrong_finish, wrong_end}
use Rattle.rm_plain.specs.Reading.{HasRead, LacksFirst, StopsAt}
use Rattle.rm_plain.proofs.FirstLines.{length-AreLines}

-- the session's number and its operations stand before what is left
abbrev pub HasReadSession : List ℕ → List Line → List (List ℕ) → Type 0
HasReadSession bytes lines left = (ops : List (List ℕ)) × AreLines lines ops × (lines_of bytes ≡ codes "session 1" ∷ (ops ++ left))

pub session_read : (bytes rest left : List ℕ) (lines : List Line) → lines_of bytes ≡ codes "session 1" ∷ lines_of rest → HasRead rest lines left → HasReadSession bytes lines (lines_of left)
session_read bytes rest left lines first h = (h.0, h.1, first ∙ ap (λ ts. codes "session 1" ∷ ts) h.2)

pub no_session : (bytes : List ℕ) → LacksFirst (codes "session 1") (lines_of bytes) → IsFirstWrongTurns 1 bytes
no_session bytes lacks = record {
  right = [];
  rest = lines_of bytes;
  cut = refl;
  begins = begins_front [] [] [] (session_texts []) tt refl;
  goes_wrong = wrong_session (lines_of bytes) lacks;
  is_number = refl;
}

pub no_turns : (bytes : List ℕ) (lines : List Line) (left : List (List ℕ)) (number : ℕ) → HasReadSession bytes lines left → StopsAt left → LacksFirst (codes "turns") left → number ≡ length lines + 2 → IsFirstWrongTurns number bytes
no_turns bytes lines left number h stops lacks e = record {
  right = codes "session 1" ∷ h.0;
  rest = left;
  cut = h.2;
  begins = begins_front lines h.0 (codes "session 1" ∷ h.0) (codes "turns" ∷ codes "finish 200000" ∷ []) h.1 refl;
  goes_wrong = wrong_turns lines h.0 left h.1 (λ said text texts is. stops text texts is said) lacks;
  is_number = omega (arith, e, length-AreLines lines h.0 h.1);
}

pub no_finish : (bytes : List ℕ) (lines : List Line) (left after : List (List ℕ)) (number : ℕ) → HasReadSession bytes lines left → left ≡ codes "turns" ∷ after → LacksFirst (codes "finish 200000") after → number ≡ length lines + 3 → IsFirstWrongTurns number bytes
no_finish bytes lines left after number h turns lacks e = record {
  right = codes "session 1" ∷ (h.0 ++ codes "turns" ∷ []);
  rest = after;
  cut = h.2 ∙ ap (λ ts. codes "session 1" ∷ (h.0 ++ ts)) turns ∙ sym (ap (λ ts. codes "session 1" ∷ ts) (append_assoc h.0 (codes "turns" ∷ []) after));
  begins = begins_front lines h.0 (codes "session 1" ∷ (h.0 ++ codes "turns" ∷ [])) (codes "finish 200000" ∷ []) h.1 (sym (ap (λ ts. codes "session 1" ∷ ts) (append_assoc h.0 (codes "turns" ∷ []) (codes "finish 200000" ∷ []))));
  goes_wrong = wrong_finish lines h.0 after h.1 lacks;
  is_number = omega (arith, e, length-AreLines lines h.0 h.1, length-append h.0 (codes "turns" ∷ []));
}

-- all that a script has, before what is left
whole_read : (bytes : List ℕ) (ops left after last : List (List ℕ)) → lines_of bytes ≡ codes "session 1" ∷ (ops ++ left) → left ≡ codes "turns" ∷ after → after ≡ codes "finish 200000" ∷ last → lines_of bytes ≡ session_texts ops ++ last
whole_read bytes ops left after last cut turns finish =
    cut ∙ ap (λ ts. codes "session 1" ∷ (ops ++ ts)) (turns ∙ ap (λ ts. codes "turns" ∷ ts) finish)
    ∙ sym (ap (λ ts. codes "session 1" ∷ ts) (append_assoc ops (codes "turns" ∷ codes "finish 200000" ∷ []) last))

pub no_end : (bytes : List ℕ) (lines : List Line) (left after last : List (List ℕ)) (number : ℕ) → HasReadSession bytes lines left → left ≡ codes "turns" ∷ after → after ≡ codes "finish 200000" ∷ last → (last ≡ [] → ⊥) → number ≡ length lines + 4 → IsFirstWrongTurns number bytes
no_end bytes lines left after last number h turns finish some e = record {
  right = session_texts h.0;
  rest = last;
  cut = whole_read bytes h.0 left after last h.2 turns finish;
  begins = begins_front lines h.0 (session_texts h.0) [] h.1 (sym (append-nil (session_texts h.0)));
  goes_wrong = wrong_end lines h.0 last h.1 some;
  is_number = omega (arith, e, length-AreLines lines h.0 h.1, length-append h.0 (codes "turns" ∷ codes "finish 200000" ∷ []));
}

pub is_turns : (bytes : List ℕ) (lines : List Line) (left after last : List (List ℕ)) → HasReadSession bytes lines left → left ≡ codes "turns" ∷ after → after ≡ codes "finish 200000" ∷ last → last ≡ [] → IsTurns lines bytes
is_turns bytes lines left after last h turns finish none =
    (h.0, h.1, whole_read bytes h.0 left after last h.2 turns finish ∙ ap (λ ts. session_texts h.0 ++ ts) none ∙ append-nil (session_texts h.0))
