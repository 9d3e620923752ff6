-- What a medium holds.
use Rattle.std.specs.Prelude.{ℕ, ◌+◌, ◌<◌, ◌≤◌, List, vec_len, vec_capacity}
use Rattle.rm_types.specs.declared.areas.Area.{Area}
use Rattle.rm_outside.specs.Images.{Image}
use Rattle.rm_memory.specs.declared.medium.Medium.{Medium}
use Rattle.rm_outside.specs.PerArea.{of_area}
use Rattle.rm_memory.specs.Areas.{image_of}
use Rattle.rm_outside.specs.History.{Event, content}
use Rattle.rm_memory.specs.Notes.{history}

-- what was done to it, newest first
abbrev pub events : Medium → List Event
events medium = history medium.notes.items medium.bytes.items

-- the image that it began with
abbrev pub base_image : Medium → Image
base_image medium = image_of medium.base

-- the image that a read gives
abbrev pub shown : Medium → Image
shown medium = content (base_image medium) (events medium)

-- A write of `len` bytes at that offset takes no memory; nor does a sync.
pub record HasRoom (medium : Medium) (area : Area) (at len : ℕ) : Type 0 where
  pub notes : vec_len medium.notes < vec_capacity medium.notes
  pub bytes : vec_len medium.bytes + len ≤ vec_capacity medium.bytes
  pub in_area : at + len ≤ vec_capacity (of_area medium.current area)

abbrev pub HasRoomForSync : Medium → Type 0
HasRoomForSync medium = vec_len medium.notes < vec_capacity medium.notes
