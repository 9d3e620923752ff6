-- The actors whose turns a word still is.
use Rattle.std.specs.Prelude.{ℕ, ◌+◌, ◌-◌, List, ◌++◌, replicate}
use Rattle.rm_core.specs.Below.{Actor, Word}
use Rattle.rm_events.specs.declared.lines.Word.TheVariants as word
use Rattle.rm_play.specs.Words.{round_from, rounds_of}

-- in a script of so many sessions, of which so many had their turn in the word's present round
abbrev pub left_of : ℕ → Word → ℕ → List Actor
left_of sessions (word.Turns actor count) had = replicate count actor
left_of sessions (word.Finish rounds) had = round_from (had + 1) (sessions - had) ++ rounds_of sessions rounds
