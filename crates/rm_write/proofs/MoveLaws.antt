-- What a sink took of a text, piece by piece.
use Rattle.std.proofs.Common.{ℕ, List, [], ◌++◌, take, drop, Option, refl, sym, ap, ◌∙◌, append_assoc, append-nil, subst}
use Rattle.std.proofs.lemmas.List.{take-append-drop}
use Rattle.rm_outside.specs.Streams.{Takes}
use Rattle.rm_outside.proofs.StreamLemmas.{Takes-none, Takes-append}
use Rattle.rm_write.specs.Moves.{Moves, TakesFront}

-- a write of a whole text, and one that stopped
pub Moves-all : (a b : Option (List ℕ)) (text : List ℕ) → Takes a b text → Moves a b text []
Moves-all a b text took = record { sent = text; cut = sym (append-nil text); took = took }

pub Moves-prefix : (a b : Option (List ℕ)) (text : List ℕ) (count : ℕ) → Takes a b (take count text) → Moves a b text (drop count text)
Moves-prefix a b text count took = record { sent = take count text; cut = sym (take-append-drop count text); took = took }

-- nothing is moved
pub Moves-none : (a : Option (List ℕ)) (text : List ℕ) → Moves a a text text
Moves-none a text = record { sent = []; cut = refl; took = Takes-none a }

-- all of it is moved
pub Moves-whole : (a b : Option (List ℕ)) (text : List ℕ) → Moves a b text [] → Takes a b text
Moves-whole a b text moves = subst (λ (sent : List ℕ). Takes a b sent) (sym (moves.cut ∙ append-nil moves.sent)) moves.took

-- more is due, which the buffer gathers
pub Moves-more : (a b : Option (List ℕ)) (text rest more : List ℕ) → Moves a b text rest → Moves a b (text ++ more) (rest ++ more)
Moves-more a b text rest more moves =
    record { sent = moves.sent; cut = ap (λ (t : List ℕ). t ++ more) moves.cut ∙ append_assoc moves.sent rest more; took = moves.took }

-- and then the sink takes more
pub Moves-on : (a b c : Option (List ℕ)) (text rest left : List ℕ) → Moves a b text rest → Moves b c rest left → Moves a c text left
Moves-on a b c text rest left first second = record {
  sent = first.sent ++ second.sent;
  cut = first.cut ∙ ap (λ (t : List ℕ). first.sent ++ t) second.cut ∙ sym (append_assoc first.sent second.sent left);
  took = Takes-append a b c first.sent second.sent first.took second.took;
}

-- a text, and then one that the buffer gathers after what is left of it
pub Moves-then : (a b c : Option (List ℕ)) (text rest more left : List ℕ) → Moves a b text rest → Moves b c (rest ++ more) left → Moves a c (text ++ more) left
Moves-then a b c text rest more left first second =
    Moves-on a b c (text ++ more) (rest ++ more) left (Moves-more a b text rest more first) second

-- what it took of a text is of the text with more
pub TakesFront-more : (a b : Option (List ℕ)) (text more : List ℕ) → TakesFront a b text → TakesFront a b (text ++ more)
TakesFront-more a b text more front = (front.0 ++ more, Moves-more a b text front.0 more front.1)

pub TakesFront-then : (a b c : Option (List ℕ)) (text rest more : List ℕ) → Moves a b text rest → TakesFront b c (rest ++ more) → TakesFront a c (text ++ more)
TakesFront-then a b c text rest more first second = (second.0, Moves-then a b c text rest more second.0 first second.1)
