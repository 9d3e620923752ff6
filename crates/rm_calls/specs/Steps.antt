-- What some calls of one kind are for a volume, whatever the files held.
use Rattle.std.specs.Prelude.{◌≡◌, ℕ, ◌≤◌, Bool, true, false, List, length, take, Result, IfOk, OnErr, IsTrue, if◌then◌else◌}
use Rattle.rm_types.specs.declared.areas.Area.{Area}
use Rattle.rm_outside.specs.Areas.{is_same}
use Rattle.rm_outside.specs.Images.{Image, Torn, Shows}
use Rattle.rm_outside.specs.Moments.{AddsNone, Follows, IsDurable, Elapses}
use Rattle.rm_outside.specs.declared.volume.Failed.{Failed}
use Rattle.rm_calls.specs.Calls.{Call, has_fault, is_lost}
use Rattle.rm_calls.specs.Replay.{EndsAt, events, IsHonest, held, MayLeave, left_since}

-- time went on, and each image that might have been left before may be left still
abbrev pub Passes : Image → List Call → List Call → Type 0
Passes start old new = Elapses (length old) (length new) (left_since start old) (left_since start new) (MayLeave start new)

-- a fault stays in the record
abbrev pub KeepsFaults : List Call → List Call → Type 0
KeepsFaults old new = (area : Area) → IsTrue (has_fault old area) → IsTrue (has_fault new area)

-- no area is lost by it but this one, and that only if it was not done
abbrev pub LosesUnless : Bool → Area → List Call → List Call → Type 0
LosesUnless done area old new = (other : Area) → (if done then false else is_same area other) ≡ false → is_lost new other ≡ is_lost old other

-- a flag says that the area is lost: it is set if it is, and only if a call in the area failed
pub record IsKnown (lost : Bool) (calls : List Call) (area : Area) : Type 0 where
  pub unless : lost ≡ false → is_lost calls area ≡ false
  pub fault : lost ≡ true → IsTrue (has_fault calls area)

-- the later calls read at most, and are honest only if the earlier ones are
pub record Reads (start : Image) (old new : List Call) : Type 0 where
  pub same : events new ≡ events old
  pub honest : IsHonest start new → IsHonest start old
  pub content : held start new ≡ held start old
  pub images : AddsNone (MayLeave start old) (MayLeave start new)
  pub time : Passes start old new
  pub faults : KeepsFaults old new
  pub lost : (area : Area) → is_lost new area ≡ is_lost old area

-- they wrote some of these bytes at most
pub record Writes (start : Image) (area : Area) (at : ℕ) (bytes : List ℕ) (old new : List Call) : Type 0 where
  pub honest : IsHonest start new → IsHonest start old
  pub content : Torn area at bytes (held start old) (held start new)
  pub images : Follows (Torn area at bytes) (MayLeave start old) (MayLeave start new)
  pub still : (c : Image) → MayLeave start old c → MayLeave start new c
  pub time : Passes start old new
  pub faults : KeepsFaults old new

-- they synced at most
pub record Syncs (start : Image) (old new : List Call) : Type 0 where
  pub honest : IsHonest start new → IsHonest start old
  pub content : held start new ≡ held start old
  pub images : AddsNone (MayLeave start old) (MayLeave start new)
  pub time : Passes start old new
  pub faults : KeepsFaults old new

-- if the answers are honest and the area is not lost, these bytes stand there
abbrev pub Shown : Image → Area → ℕ → List ℕ → List Call → List Call → Type 0
Shown start area at bytes old new = IsHonest start new → is_lost old area ≡ false → Shows (held start old area) at bytes

-- as many bytes at an offset came as the result says, or a call failed
pub record Comes (start : Image) (area : Area) (at : ℕ) (into : List ℕ) (old new : List Call) (result : Result ℕ Failed) : Type 0 where
  pub bound : IfOk result (λ count. count ≤ length into)
  pub bytes : IfOk result (λ count. Shown start area at (take count into) old new)
  pub end : IfOk result (λ count. count ≡ 0 → IsHonest start new → is_lost old area ≡ false → EndsAt (held start old area) at)
  pub fault : OnErr result (IsTrue (has_fault new area))
  pub reads : Reads start old new

-- the bytes were read, or a call failed
pub record Fills (start : Image) (area : Area) (at : ℕ) (into : List ℕ) (old new : List Call) (done : Bool) : Type 0 where
  pub bytes : IsTrue done → Shown start area at into old new
  pub fault : done ≡ false → IsTrue (has_fault new area)
  pub reads : Reads start old new

-- the bytes were written, or a call failed
pub record Puts (start : Image) (area : Area) (at : ℕ) (bytes : List ℕ) (old new : List Call) (done : Bool) : Type 0 where
  pub shows : IsTrue done → Shows (held start new area) at bytes
  pub fault : done ≡ false → IsTrue (has_fault new area)
  pub writes : Writes start area at bytes old new
  pub loses : LosesUnless done area old new

-- the area was synced, or a call failed
pub record Settles (start : Image) (area : Area) (old new : List Call) (done : Bool) : Type 0 where
  pub durable : IsTrue done → IsDurable area (held start old) (MayLeave start new)
  pub fault : done ≡ false → IsTrue (has_fault new area)
  pub syncs : Syncs start old new
  pub loses : LosesUnless done area old new
