-- What honest files answer, what a volume over them holds, and what a crash may leave of it: all by going through the
-- record of the calls, from what the files held when they were opened.
use Rattle.std.specs.Prelude.{◌≡◌, ℕ, ◌≤◌, false, List, [], ◌∷◌, length, if◌then◌else◌}
use Rattle.rm_types.specs.declared.areas.Area.{Area}
use Rattle.rm_outside.specs.Images.{Bytes, Image, Shows}
use Rattle.rm_outside.specs.Since as since
use Rattle.rm_outside.specs.Calls.{Facts}
use Rattle.rm_outside.specs.History.{Event, Write, Sync, content, may_leave}
use Rattle.rm_calls.specs.declared.answer.Answer.TheVariants.{Done, Interrupted, Failed}
use Rattle.rm_calls.specs.Answers.{is_whole}
use Rattle.rm_calls.specs.Calls.{Call, Read, Wrote, Synced, is_lost}

-- What they did. A write that was not whole may have left a part. A sync of an area that is lost makes nothing durable.
unfoldable pub events : List Call → List Event
events [] = []
events (Read area at bytes answer ∷ rest) = events rest
events (Wrote area at bytes answer ∷ rest) = Write area at bytes (is_whole (length bytes) answer) ∷ events rest
events (Synced area (Done count) ∷ rest) = if is_lost rest area then events rest else Sync area ∷ events rest
events (Synced area Interrupted ∷ rest) = events rest
events (Synced area Failed ∷ rest) = events rest

-- from this offset on there are no bytes, which is to say that they are 0
pub record EndsAt (content : Bytes) (at : ℕ) : Type 0 where
  pub each : (k : ℕ) → at ≤ k → content k ≡ 0

-- these bytes stand there, and none come only from the end on
pub record Holds (area : Bytes) (at : ℕ) (bytes : List ℕ) : Type 0 where
  pub shows : Shows area at bytes
  pub end : length bytes ≡ 0 → EndsAt area at

-- The answers are those of honest files that held `start`. Of a lost area nothing is asked.
unfoldable pub IsHonest : Image → List Call → Type 0
IsHonest start [] = Unit {0}
IsHonest start (Read area at bytes (Done count) ∷ rest) = IsHonest start rest × (is_lost rest area ≡ false → Holds (content start (events rest) area) at bytes)
IsHonest start (Read area at bytes Interrupted ∷ rest) = IsHonest start rest
IsHonest start (Read area at bytes Failed ∷ rest) = IsHonest start rest
IsHonest start (Wrote area at bytes answer ∷ rest) = IsHonest start rest
IsHonest start (Synced area answer ∷ rest) = IsHonest start rest

-- what a read gives then
abbrev pub held : Image → List Call → Image
held start calls = content start (events calls)

-- a crash now may leave this image
abbrev pub MayLeave : Image → List Call → Image → Type 0
MayLeave start calls c = IsHonest start calls × may_leave start (events calls) c

-- a crash at a moment from t on might have left it; the moment is the number of calls
abbrev pub left_since : Image → List Call → ℕ → Image → Type 0
left_since start = since.left_since (MayLeave start)

-- the facts of a volume over files that held `start`, after these calls and with these counts
abbrev pub facts_over : Image → List Call → (Area → ℕ) → ℕ → ℕ → Facts
facts_over start calls faults data_reads log_reads = record {
  content = held start calls;
  may_leave = MayLeave start calls;
  moment = length calls;
  left_since = left_since start calls;
  faults = faults;
  data_reads = data_reads;
  log_reads = log_reads;
  models_content = IsHonest start calls;
}
