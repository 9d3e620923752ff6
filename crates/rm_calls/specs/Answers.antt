-- What a call on a file answered.
use Rattle.std.specs.Prelude.{ℕ, ◌==◌, Bool, true, false, Result, Ok, Err}
use Rattle.rm_outside.specs.declared.volume.Failed.{Failed}
use Rattle.rm_calls.specs.declared.answer.Answer.{Answer}
use Rattle.rm_calls.specs.declared.answer.Answer.TheVariants.{Done, Interrupted, Failed as failed}

-- how many bytes it was done with
abbrev pub count_of : Answer → ℕ
count_of (Done count) = count
count_of Interrupted = 0
count_of failed = 0

-- the number of bytes, or that it was not done
abbrev pub outcome_of : Answer → Result ℕ Failed
outcome_of (Done count) = Ok count
outcome_of Interrupted = Err (record {})
outcome_of failed = Err (record {})

-- it was done
abbrev pub is_done : Answer → Bool
is_done (Done count) = true
is_done Interrupted = false
is_done failed = false

-- all of `len` bytes were taken
abbrev pub is_whole : ℕ → Answer → Bool
is_whole len (Done count) = count == len
is_whole len Interrupted = false
is_whole len failed = false

-- a signal interrupted it
abbrev pub is_interrupted : Answer → Bool
is_interrupted (Done count) = false
is_interrupted Interrupted = true
is_interrupted failed = false
