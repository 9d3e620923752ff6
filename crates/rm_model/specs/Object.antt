-- The one-thread object: which replies one user of a file of rows may get, and what the rows are then.
use Rattle.std.specs.Prelude.{◌≡◌, ℕ, ◌≤◌, ◌<◌, Bool, ◌&&◌, ◌==◌, if◌then◌else◌, List, Option, Some, None, ◌⊎◌}
use Rattle.rm_types.specs.declared.numbers.Rid.{Rid}
use Rattle.rm_types.specs.declared.numbers.TheConstants.{MAX_SLOT}
use Rattle.rm_types.specs.declared.operations.Op.{Op}
use Rattle.rm_types.specs.declared.operations.Op.TheVariants as op
use Rattle.rm_types.specs.declared.operations.Reply.{Reply}
use Rattle.rm_types.specs.declared.operations.Reply.TheVariants as reply

-- at each row id the bytes of the row that stands there, if one does
abbrev pub Rows : Type 0
Rows = Rid → Option (List ℕ)

-- two row ids name the same place
abbrev pub is_same_place : Rid → Rid → Bool
is_same_place a b = (a.page == b.page) && (a.slot == b.slot)

-- the rows with one more
abbrev pub with_row : Rows → Rid → List ℕ → Rows
with_row rows rid row = λ place. if is_same_place place rid then Some row else rows place

-- the row id names no place of a file of `pages` pages
abbrev pub IsOutside : ℕ → Rid → Type 0
IsOutside pages rid = (pages ≤ rid.page) ⊎ (MAX_SLOT < rid.slot)

-- Over a file of `pages` pages the operation may draw the reply, and the rows go from old to new.
abbrev pub MayReply : ℕ → Rows → Op → Reply → Rows → Type 0
MayReply pages old op.Begin (reply.Began id) new = new ≡ old
MayReply pages old (op.Insert row) (reply.Inserted rid) new = (old rid ≡ None) × (new ≡ with_row old rid row)
MayReply pages old (op.Insert row) reply.NoSpace new = new ≡ old
MayReply pages old (op.Read rid) (reply.Row row) new = (old rid ≡ Some row) × (new ≡ old)
MayReply pages old (op.Read rid) reply.NoRow new = (old rid ≡ None) × (new ≡ old)
MayReply pages old (op.Read rid) reply.BadRid new = IsOutside pages rid × (new ≡ old)
MayReply pages old op.Commit reply.Committed new = new ≡ old
MayReply pages old op.Unbound reply.Unbound new = new ≡ old
-- a begin inside a transaction
MayReply pages old op.Begin reply.Skipped new = new ≡ old
-- no other reply comes
MayReply pages old operation other new = ⊥
