-- What a write puts into an image.
use Rattle.std.specs.Prelude.{ℕ, ◌+◌, ◌-◌, List, length, slice_index, if◌then◌else◌, nat_lt}
use Rattle.rm_types.specs.declared.areas.Area.{Area}
use Rattle.rm_outside.specs.Areas.{is_same}
use Rattle.rm_outside.specs.Images.{Bytes, Image}

-- an area's bytes with these put at that offset
abbrev pub put_bytes : Bytes → ℕ → List ℕ → Bytes
put_bytes old at bytes = λ k. if nat_lt k at then old k else (if nat_lt k (at + length bytes) then slice_index bytes (k - at) else old k)

-- an image with these bytes put at that offset of an area
abbrev pub put : Image → Area → ℕ → List ℕ → Image
put image area at bytes = λ other. if is_same area other then put_bytes (image other) at bytes else image other
