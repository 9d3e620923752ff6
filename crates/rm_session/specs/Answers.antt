-- What an operation draws from the pages, under a session that has a transaction or has none.
use Rattle.std.specs.Prelude.{◌≡◌, ℕ, ◌<◌, List, length, Some, None}
use Rattle.rm_types.specs.declared.numbers.Rid.{Rid}
use Rattle.rm_types.specs.declared.slots.Slot.{Slot}
use Rattle.rm_types.specs.declared.operations.Op.{Op}
use Rattle.rm_types.specs.declared.operations.Reply.{Reply}
use Rattle.rm_types.specs.declared.operations.Reply.TheVariants as reply
use Rattle.rm_model.specs.Object.{IsOutside}
use Rattle.rm_model.specs.Files.{page_at, rows_of, set_row}
use Rattle.rm_session.specs.Session.{LacksRoom, IsPlaceFor, IsInside, Core, Comes, MayDraw}

-- no page has room for a row of `len` bytes
abbrev pub IsFull : List (List Slot) → ℕ → Type 0
IsFull pages len = (page : ℕ) → page < length pages → LacksRoom (page_at pages page) len

-- the reply to an insert, and the pages after it
abbrev pub Inserts : List (List Slot) → List ℕ → Reply → List (List Slot) → Type 0
Inserts old row (reply.Inserted rid) new = IsPlaceFor old (length row) rid × (new ≡ set_row old rid row)
Inserts old row reply.NoSpace new = IsFull old (length row) × (new ≡ old)
Inserts old row other new = ⊥

-- the reply to a read
abbrev pub Reads : List (List Slot) → Rid → Reply → Type 0
Reads pages rid reply.BadRid = IsOutside (length pages) rid
Reads pages rid (reply.Row row) = IsInside (length pages) rid × (rows_of pages rid ≡ Some row)
Reads pages rid reply.NoRow = IsInside (length pages) rid × (rows_of pages rid ≡ None)
Reads pages rid other = ⊥

-- a reply that the one-thread object may give and that comes, and the core after it
pub record Draws (old : Core) (asked : Op) (told : Reply) (new : Core) : Type 0 where
  pub object : MayDraw (length old.pages) (rows_of old.pages) asked told (rows_of new.pages)
  pub comes : Comes old asked told new
