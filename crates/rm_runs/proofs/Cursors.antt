-- What is left of a word before and after its next turn.
use Rattle.std.proofs.Common.{◌≡◌, ℕ, zero, suc, ◌+◌, ◌-◌, ◌<◌, ◌≤◌, List, [], ◌∷◌, ◌++◌, replicate, refl, sym, ap, ◌∙◌, arith}
use Rattle.rm_core.specs.Below.{Actor, Session, Word}
use Rattle.rm_events.specs.declared.lines.Word.TheVariants as word
use Rattle.rm_play.specs.Words.{round_from, rounds_of, actors_of}
use Rattle.rm_runs.specs.Cursors.{left_of}

-- one turn fewer
pub turn_taken : (sessions had count : ℕ) (actor : Actor) → 0 < count
    → left_of sessions (word.Turns actor count) had ≡ actor ∷ left_of sessions (word.Turns actor (count - 1)) had
turn_taken sessions had count actor some = ap (λ (n : ℕ). replicate n actor) (let e : count ≡ suc (count - 1) = omega arith in e)

-- the next session of a round
pub session_taken : (sessions had rounds : ℕ) → had < sessions
    → left_of sessions (word.Finish rounds) had ≡ Session (had + 1) ∷ left_of sessions (word.Finish rounds) (had + 1)
session_taken sessions had rounds more =
    ap (λ (n : ℕ). round_from (had + 1) n ++ rounds_of sessions rounds) (let e : sessions - had ≡ suc (sessions - (had + 1)) = omega arith in e)

-- a round is over
pub round_over : (sessions had rounds : ℕ) → sessions ≤ had → left_of sessions (word.Finish rounds) had ≡ rounds_of sessions rounds
round_over sessions had rounds over = ap (λ (n : ℕ). round_from (had + 1) n ++ rounds_of sessions rounds) (let e : sessions - had ≡ 0 = omega arith in e)

-- the first session of the next round
pub round_begun : (sessions had rounds : ℕ) → sessions ≤ had → 0 < sessions → 0 < rounds
    → left_of sessions (word.Finish rounds) had ≡ Session 1 ∷ left_of sessions (word.Finish (rounds - 1)) 1
round_begun sessions had rounds over some more =
    round_over sessions had rounds over
    ∙ ap (rounds_of sessions) (let e : rounds ≡ suc (rounds - 1) = omega arith in e)
    ∙ ap (λ (n : ℕ). round_from 1 n ++ rounds_of sessions (rounds - 1)) (let e : sessions ≡ suc (sessions - 1) = omega arith in e)

-- a script without sessions has no rounds
rounds_of-none : (rounds : ℕ) → rounds_of 0 rounds ≡ []
rounds_of-none zero = refl
rounds_of-none (suc rounds) = rounds_of-none rounds

pub rounds_over : (sessions had rounds : ℕ) → sessions ≤ had → rounds ≡ 0 → left_of sessions (word.Finish rounds) had ≡ []
rounds_over sessions had rounds over none = round_over sessions had rounds over ∙ ap (rounds_of sessions) none

pub no_rounds : (sessions had rounds : ℕ) → sessions ≡ 0 → left_of sessions (word.Finish rounds) had ≡ []
no_rounds sessions had rounds none =
    round_over sessions had rounds (omega arith) ∙ ap (λ (n : ℕ). rounds_of n rounds) none ∙ rounds_of-none rounds

-- the next word
pub word_taken : (sessions : ℕ) (first : Word) (words : List Word) → actors_of sessions (first ∷ words) ≡ left_of sessions first sessions ++ actors_of sessions words
word_taken sessions (word.Turns actor count) words = refl
word_taken sessions (word.Finish rounds) words = ap (λ (left : List Actor). left ++ actors_of sessions words) (sym (round_over sessions sessions rounds (omega arith)))
