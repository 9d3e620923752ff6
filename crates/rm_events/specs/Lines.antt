-- The operation of a line, and what its reply binds.
use Rattle.std.specs.Prelude.{◌≡◌, ℕ, List, Option, Some, None, slice_set}
use Rattle.rm_types.specs.declared.numbers.Rid.{Rid}
use Rattle.rm_events.specs.declared.lines.Line.{Line}
use Rattle.rm_events.specs.declared.lines.Line.TheVariants as line
use Rattle.rm_events.specs.declared.lines.Target.{Target}
use Rattle.rm_events.specs.declared.lines.Target.TheVariants as target
use Rattle.rm_events.specs.declared.operations.Op.{Op}
use Rattle.rm_events.specs.declared.operations.Op.TheVariants as op
use Rattle.rm_events.specs.declared.operations.Reply.{Reply}
use Rattle.rm_events.specs.declared.operations.Reply.TheVariants as reply
use Rattle.rm_events.specs.Names.{bound_to}

-- the row id that a line speaks of, under these bindings
abbrev pub target_rid : Target → List (Option Rid) → Option Rid
target_rid (target.Name name) names = bound_to names name
target_rid (target.At rid) names = Some rid

-- an operation on that row, where there is a row id
abbrev pub on_row : (Rid → Op) → Option Rid → Op
on_row does None = op.Unbound
on_row does (Some rid) = does rid

-- the operation of a line, under these bindings
abbrev pub op_of : Line → List (Option Rid) → Op
op_of line.Begin names = op.Begin
op_of (line.Insert name row) names = op.Insert row
op_of (line.Read read) names = on_row op.Read (target_rid read names)
op_of (line.Update changed row) names = on_row (λ rid. op.Update rid row) (target_rid changed names)
op_of (line.Delete gone) names = on_row op.Delete (target_rid gone names)
op_of (line.Save number) names = op.Save number
op_of (line.Back number) names = op.Back number
op_of line.Commit names = op.Commit
op_of line.Abort names = op.Abort

-- the line has a row, which its operation copies
abbrev pub CopiesRow : Line → Type 0
CopiesRow (line.Insert name row) = Unit {0}
CopiesRow (line.Update changed row) = Unit {0}
CopiesRow other = ⊥

-- the bindings after a line and its reply: an insert that found its place binds its name
abbrev pub names_after : Line → Reply → List (Option Rid) → List (Option Rid)
names_after (line.Insert name row) (reply.Inserted rid) names = slice_set names name (Some rid)
names_after said told names = names
