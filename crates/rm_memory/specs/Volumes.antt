-- A volume in memory: its images, its counts, and which of its calls fail.
use Rattle.std.specs.Prelude.{◌≡◌, ℕ, ◌+◌, ◌-◌, ◌<◌, ◌≤◌, ◌==◌, ◌||◌, ◌&&◌, Bool, false, List, [], vec_len, vec_capacity, Result, is_err, if◌then◌else◌}
use Rattle.rm_types.specs.declared.areas.Area.{Area}
use Rattle.rm_outside.specs.Images.{Image}
use Rattle.rm_outside.specs.Counts.{raised}
use Rattle.rm_memory.specs.declared.volume.MemVolume.{MemVolume}
use Rattle.rm_outside.specs.Areas.{is_same}
use Rattle.rm_outside.specs.PerArea.{of_area}
use Rattle.rm_outside.specs.History.{Event, content, may_leave}
use Rattle.rm_memory.specs.Crashes.{none, left}
use Rattle.rm_memory.specs.Mediums.{events, base_image, HasRoom, HasRoomForSync}
use Rattle.rm_memory.specs.Plans.{lists_call}

-- what was done to it, newest first
abbrev pub events_of : MemVolume → List Event
events_of volume = events volume.medium

-- the image that it was made with
abbrev pub base_of : MemVolume → Image
base_of volume = base_image volume.medium

-- the image that a read gives
abbrev pub content_of : MemVolume → Image
content_of volume = content (base_of volume) (events_of volume)

-- a crash now may leave this image
abbrev pub may_leave_of : MemVolume → Image → Type 0
may_leave_of volume = may_leave (base_of volume) (events_of volume)

-- the image that this outcome leaves
abbrev pub left_by : ℕ → MemVolume → Image
left_by outcome volume = left outcome (base_of volume) (events_of volume) none

-- how often an area has failed
abbrev pub faults_of : MemVolume → Area → ℕ
faults_of volume = of_area volume.faults

-- the n-th call from now is listed, from 1
abbrev pub is_listed : MemVolume → ℕ → Bool
is_listed volume = lists_call volume.plan

-- it has stopped: each call fails
abbrev pub has_stopped : MemVolume → Bool
has_stopped volume = volume.plan.stopped

-- which write from now stops it, from 1, or 0 for none
abbrev pub stops_in : MemVolume → ℕ
stops_in volume = volume.plan.stops_in

-- the writes since the last `stop_at`, or since the start
abbrev pub writes_of : MemVolume → ℕ
writes_of volume = volume.plan.writes

-- the next call fails, where it is a read or a sync
abbrev pub is_due : MemVolume → Bool
is_due volume = has_stopped volume || is_listed volume 1

-- the next call fails, where it is a write
abbrev pub is_due_write : MemVolume → Bool
is_due_write volume = is_due volume || (stops_in volume == 1)

-- a write of `len` bytes at that offset takes no memory
abbrev pub HasRoomFor : MemVolume → Area → ℕ → ℕ → Type 0
HasRoomFor volume = HasRoom volume.medium

-- a sync takes no memory
abbrev pub HasRoomToSync : MemVolume → Type 0
HasRoomToSync volume = HasRoomForSync volume.medium

-- listing one call more takes no memory
abbrev pub HasRoomToList : MemVolume → Type 0
HasRoomToList volume = vec_len volume.plan.fails < vec_capacity volume.plan.fails

-- each listed call is one nearer
pub record Nears (old new : MemVolume) : Type 0 where
  pub each : (n : ℕ) → 1 ≤ n → is_listed new n ≡ is_listed old (n + 1)

-- no write was counted
pub record KeepsWrites (old new : MemVolume) : Type 0 where
  pub writes : writes_of new ≡ writes_of old
  pub stops : stops_in new ≡ stops_in old
  pub stopped : has_stopped new ≡ has_stopped old

-- one write was counted, and the volume stops where it was the one
pub record CountsWrite (old new : MemVolume) : Type 0 where
  pub writes : writes_of new ≡ raised (writes_of old) 1
  pub stops : stops_in new ≡ stops_in old - 1
  pub stopped : has_stopped new ≡ (has_stopped old || (stops_in old == 1))

-- the area's count of faults rises by one where the call failed, and no other does
pub record CountsFault {T E : Type 0} (area : Area) (old new : MemVolume) (outcome : Result T E) : Type 0 where
  pub each : (other : Area) → faults_of new other ≡ (if is_err outcome && is_same area other then raised (faults_of old other) 1 else faults_of old other)

-- nothing but its counts changed
pub record KeepsImages (old new : MemVolume) : Type 0 where
  pub base : base_of new ≡ base_of old
  pub events : events_of new ≡ events_of old

-- nothing was done to it yet, nothing was counted, and no call fails
pub record IsFresh (volume : MemVolume) : Type 0 where
  pub events : events_of volume ≡ []
  pub faults : (area : Area) → faults_of volume area ≡ 0
  pub data_reads : volume.data_reads ≡ 0
  pub log_reads : volume.log_reads ≡ 0
  pub listed : (n : ℕ) → is_listed volume n ≡ false
  pub stopped : has_stopped volume ≡ false
  pub stops : stops_in volume ≡ 0
  pub writes : writes_of volume ≡ 0

-- nothing but its list of failing calls, its stop and its count of writes changed
pub record KeepsOthers (old new : MemVolume) : Type 0 where
  pub images : KeepsImages old new
  pub stopped : has_stopped new ≡ has_stopped old
  pub faults : (area : Area) → faults_of new area ≡ faults_of old area
  pub data_reads : new.data_reads ≡ old.data_reads
  pub log_reads : new.log_reads ≡ old.log_reads
