-- The calls on the files of a volume with their answers, the newest first.
use Rattle.std.specs.Prelude.{ℕ, ◌==◌, ◌&&◌, not, Bool, true, false, List, [], ◌∷◌, length, if◌then◌else◌}
use Rattle.rm_types.specs.declared.areas.Area.{Area}
use Rattle.rm_outside.specs.Areas.{is_same}
use Rattle.rm_calls.specs.declared.answer.Answer.{Answer}
use Rattle.rm_calls.specs.declared.answer.Answer.TheVariants.{Done, Interrupted, Failed}
use Rattle.rm_calls.specs.Answers.{is_done, is_whole}

-- A read, with the bytes that came. A write of these bytes. A sync.
pub data Call : Type 0 where
  Read : (area : Area) (at : ℕ) (bytes : List ℕ) (answer : Answer) → Call
  Wrote : (area : Area) (at : ℕ) (bytes : List ℕ) (answer : Answer) → Call
  Synced : (area : Area) (answer : Answer) → Call

-- the area of a call
abbrev pub area_of : Call → Area
area_of (Read area at bytes answer) = area
area_of (Wrote area at bytes answer) = area
area_of (Synced area answer) = area

-- The call was not done in full.
abbrev pub is_fault : Call → Bool
is_fault (Read area at bytes answer) = not (is_done answer)
is_fault (Wrote area at bytes answer) = not (is_whole (length bytes) answer)
is_fault (Synced area answer) = not (is_done answer)

-- What its area holds is not known after the call: a write of it stopped on the way, or a sync of it was not done, so
-- that what was written before may be gone. A write that a signal interrupted wrote nothing.
abbrev pub is_loss : Call → Bool
is_loss (Read area at bytes answer) = false
is_loss (Wrote area at bytes (Done count)) = not (count == length bytes)
is_loss (Wrote area at bytes Interrupted) = false
is_loss (Wrote area at bytes Failed) = true
is_loss (Synced area answer) = not (is_done answer)

-- some call in this area was not done in full
unfoldable pub has_fault : List Call → Area → Bool
has_fault [] area = false
has_fault (call ∷ rest) area = if is_fault call && is_same (area_of call) area then true else has_fault rest area

-- what this area holds is not known any more
unfoldable pub is_lost : List Call → Area → Bool
is_lost [] area = false
is_lost (call ∷ rest) area = if is_loss call && is_same (area_of call) area then true else is_lost rest area
