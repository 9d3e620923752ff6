-- The turn lines of a script, and how many turns its words are.
use Rattle.std.specs.Prelude.{◌≡◌, ℕ, ◌*◌, ◌^◌, ◌≤◌, ◌<◌, ◌==◌, List, [], ◌∷◌, ◌++◌, codes, decimal, sum_by, ◌⊎◌}
use Rattle.std.specs.List.{AllZip, slice_split}
use Rattle.rm_events.specs.declared.events.Actor.{Actor}
use Rattle.rm_events.specs.declared.events.Actor.TheVariants as actor
use Rattle.rm_events.specs.declared.lines.Word.{Word}
use Rattle.rm_events.specs.declared.lines.Word.TheVariants as word
use Rattle.rm_script.specs.declared.limits.TheConstants.{MAX_TURNS}

-- the text names the actor, in a script of this many sessions
abbrev pub IsActor : ℕ → Actor → List ℕ → Type 0
IsActor sessions (actor.Session number) text = (0 < number) × (number ≤ sessions) × (text ≡ decimal number)
IsActor sessions actor.Flush text = text ≡ codes "f"
IsActor sessions actor.Clean text = ⊥
IsActor sessions actor.Checkpoint text = ⊥
IsActor sessions actor.Copy text = ⊥

-- the text spells the word: a name alone is one turn
abbrev pub IsWord : ℕ → Word → List ℕ → Type 0
IsWord sessions (word.Turns who count) text = (name : List ℕ) × IsActor sessions who name × (0 < count) × (count ≤ MAX_TURNS) × (((count ≡ 1) × (text ≡ name)) ⊎ (text ≡ name ++ (codes "*" ++ decimal count)))
IsWord sessions (word.Finish rounds) text = ⊥

-- the parts of a text, between its spaces
abbrev pub parts : List ℕ → List (List ℕ)
parts text = slice_split (λ byte. byte == 32) text

-- the parts of the text spell the words
abbrev pub AreWords : ℕ → List Word → List ℕ → Type 0
AreWords sessions words text = AllZip (IsWord sessions) words (parts text)

-- the text spells the word of rounds
abbrev pub IsFinish : List Word → List ℕ → Type 0
IsFinish words text = (rounds : ℕ) × (rounds < 2 ^ 32) × (words ≡ word.Finish rounds ∷ []) × (text ≡ codes "finish " ++ decimal rounds)

-- the turn line spells the words
abbrev pub IsTurnLine : ℕ → List Word → List ℕ → Type 0
IsTurnLine sessions words text = AreWords sessions words text ⊎ IsFinish words text

-- how many turns the word is: a round has one of each session
abbrev pub turns_in : ℕ → Word → ℕ
turns_in sessions (word.Turns who count) = count
turns_in sessions (word.Finish rounds) = rounds * sessions

-- how many turns the words are
abbrev pub turns_of : ℕ → List Word → ℕ
turns_of sessions words = sum_by (turns_in sessions) words
