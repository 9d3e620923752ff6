-- One session over a file of pages: which of the object's replies comes, and a run of lines.
use Rattle.std.specs.Prelude.{◌≡◌, ℕ, ◌+◌, ◌≤◌, ◌<◌, Bool, true, false, List, [], ◌∷◌, length, replicate, Option, Some, None, slice_set}
use Rattle.rm_types.specs.declared.numbers.Rid.{Rid}
use Rattle.rm_types.specs.declared.numbers.TheConstants.{MAX_SLOT}
use Rattle.rm_types.specs.declared.slots.Slot.{Slot}
use Rattle.rm_types.specs.declared.slots.TheConstants.{CAPACITY, SLOT_ENTRY}
use Rattle.rm_plain.specs.declared.lines.Line.{Line}
use Rattle.rm_plain.specs.declared.lines.Line.TheVariants as line
use Rattle.rm_types.specs.declared.operations.Op.{Op}
use Rattle.rm_types.specs.declared.operations.Op.TheVariants as op
use Rattle.rm_types.specs.declared.operations.Reply.{Reply}
use Rattle.rm_types.specs.declared.operations.Reply.TheVariants as reply
use Rattle.rm_plain.specs.Lines.{op_of}
use Rattle.rm_model.specs.Pages.{used}
use Rattle.rm_model.specs.Files.{page_at, rows_of, set_row}
use Rattle.rm_model.specs.Object.{Rows, IsOutside, MayReply}

-- a row of `len` bytes fits after the directory of a page; it does not
abbrev pub HasRoom : List Slot → ℕ → Type 0
HasRoom slots len = used slots + SLOT_ENTRY + len ≤ CAPACITY

abbrev pub LacksRoom : List Slot → ℕ → Type 0
LacksRoom slots len = CAPACITY < used slots + SLOT_ENTRY + len

-- the page is the first that has room
pub record IsFirstWithRoom (pages : List (List Slot)) (len page : ℕ) : Type 0 where
  pub in_file : page < length pages
  pub room : HasRoom (page_at pages page) len
  pub first : (before : ℕ) → before < page → LacksRoom (page_at pages before) len

-- what a session works on: the pages, the id of the next transaction, and whether it has one
pub record Core : Type 0 where
  pub pages : List (List Slot)
  pub next : ℕ
  pub active : Bool

-- the place of an insert: after the directory of the first page with room
abbrev pub IsPlaceFor : List (List Slot) → ℕ → Rid → Type 0
IsPlaceFor pages len rid = IsFirstWithRoom pages len rid.page × (rid.slot ≡ length (page_at pages rid.page))

-- the row id names a place of the file
abbrev pub IsInside : ℕ → Rid → Type 0
IsInside pages rid = (rid.page < pages) × (rid.slot ≤ MAX_SLOT)

-- Of the replies that the object may give, this one comes, and leaves the core so.
abbrev pub Comes : Core → Op → Reply → Core → Type 0
-- a name that is not bound comes first
Comes old op.Unbound reply.Unbound new = new ≡ old
-- then a begin inside a transaction is skipped, and every other operation outside one
Comes old op.Begin reply.Skipped new = (old.active ≡ true) × (new ≡ old)
Comes old (op.Insert row) reply.Skipped new = (old.active ≡ false) × (new ≡ old)
Comes old (op.Read rid) reply.Skipped new = (old.active ≡ false) × (new ≡ old)
Comes old op.Commit reply.Skipped new = (old.active ≡ false) × (new ≡ old)
-- a begin outside a transaction takes the next id, and a commit inside one ends it
Comes old op.Begin (reply.Began id) new = (old.active ≡ false) × (id.0 ≡ old.next) × (new ≡ record old { next = old.next + 1; active = true })
Comes old op.Commit reply.Committed new = (old.active ≡ true) × (new ≡ record old { active = false })
-- an insert takes its place, unless no page has room
Comes old (op.Insert row) (reply.Inserted rid) new = (old.active ≡ true) × IsPlaceFor old.pages (length row) rid × (new ≡ record old { pages = set_row old.pages rid row })
Comes old (op.Insert row) reply.NoSpace new = (old.active ≡ true) × ((page : ℕ) → page < length old.pages → LacksRoom (page_at old.pages page) (length row)) × (new ≡ old)
-- a read of a place that the file lacks is refused before the row is looked at
Comes old (op.Read rid) reply.BadRid new = (old.active ≡ true) × IsOutside (length old.pages) rid × (new ≡ old)
Comes old (op.Read rid) (reply.Row row) new = (old.active ≡ true) × IsInside (length old.pages) rid × (new ≡ old)
Comes old (op.Read rid) reply.NoRow new = (old.active ≡ true) × IsInside (length old.pages) rid × (new ≡ old)
-- no other reply comes
Comes old operation other new = ⊥

-- what is bound to the names after a line and its reply: an insert that found its place binds its name
abbrev pub names_after : Line → Reply → List (Option Rid) → List (Option Rid)
names_after (line.Insert name row) (reply.Inserted rid) names = slice_set names name (Some rid)
names_after said other names = names

-- a session: its core, and what its names are bound to
pub record State : Type 0 where
  pub core : Core
  pub names : List (Option Rid)

-- The object may give the reply, or the operation is skipped and the rows stay: that is the session's, and not the object's.
abbrev pub MayDraw : ℕ → Rows → Op → Reply → Rows → Type 0
MayDraw pages old operation reply.Skipped new = new ≡ old
MayDraw pages old operation other new = MayReply pages old operation other new

-- One line of a session, from its state before to the one after.
pub record Step (old : State) (said : Line) (told : Reply) (new : State) : Type 0 where
  -- the one-thread object may give the reply, or the line is skipped; its rows are those of the pages
  pub object : MayDraw (length old.core.pages) (rows_of old.core.pages) (op_of said old.names) told (rows_of new.core.pages)
  pub comes : Comes old.core (op_of said old.names) told new.core
  pub names : new.names ≡ names_after said told old.names

-- The lines draw these replies, each line once and in order.
abbrev pub Run : State → List Line → List Reply → State → Type 0
Run old [] [] new = new ≡ old
Run old (said ∷ lines) (told ∷ replies) new = (mid : State) × Step old said told mid × Run mid lines replies new
Run old [] (told ∷ replies) new = ⊥
Run old (said ∷ lines) [] new = ⊥

-- a session over these pages, before its first transaction, which gets the id next
abbrev pub opened : List (List Slot) → ℕ → State
opened pages next = record { core = record { pages = pages; next = next; active = false }; names = replicate 26 None }

-- a session over this many pages without rows
abbrev pub fresh : ℕ → State
fresh pages = opened (replicate pages []) 1
