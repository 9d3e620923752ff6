-- How a run over a log goes on, line by line.
use Rattle.std.proofs.Common.{ℕ, List, [], ◌∷◌, ◌++◌, refl, subst, ap}
use Rattle.rm_plain.specs.declared.lines.Line.{Line}
use Rattle.rm_types.specs.declared.operations.Reply.{Reply}
use Rattle.rm_session.specs.Session.{State, Step}
use Rattle.rm_engine.specs.Numbers.{Used, used_after}
use Rattle.rm_engine.specs.Runs.{HasLogRoom, LoggedRun}

-- nothing is done yet
pub logged_none : (limit : ℕ) (old : State) (used : Used) → LoggedRun limit old used [] [] old used
logged_none limit old used = (refl, refl)

-- one line more
pub logged_goes_on : (limit : ℕ) (old mid new : State) (used half : Used) (lines : List Line) (replies : List Reply) (said : Line) (told : Reply) → LoggedRun limit old used lines replies mid half
    → Step mid said told new → HasLogRoom limit mid.core half said → LoggedRun limit old used (lines ++ said ∷ []) (replies ++ told ∷ []) new (used_after said told half)
logged_goes_on limit old mid new used half [] [] said told ran step room = (
  new,
  subst (λ (start : State). Step start said told new) ran.0 step,
  subst (λ (u : Used). HasLogRoom limit old.core u said) ran.1 (subst (λ (start : State). HasLogRoom limit start.core half said) ran.0 room),
  (refl, ap (used_after said told) ran.1),
)
logged_goes_on limit old mid new used half (first ∷ lines) (answer ∷ replies) said told ran step room =
    (ran.0, ran.1, ran.2, logged_goes_on limit ran.0 mid new (used_after first answer used) half lines replies said told ran.3 step room)
logged_goes_on limit old mid new used half [] (answer ∷ replies) said told ran step room = absurd ran
logged_goes_on limit old mid new used half (first ∷ lines) [] said told ran step room = absurd ran
