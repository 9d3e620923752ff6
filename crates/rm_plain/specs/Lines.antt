use Rattle.std.specs.Prelude.{List, Option, Some, None}
use Rattle.rm_types.specs.declared.numbers.Rid.{Rid}
use Rattle.rm_plain.specs.declared.lines.Line.{Line}
use Rattle.rm_plain.specs.declared.lines.Line.TheVariants as line
use Rattle.rm_events.specs.declared.lines.Target.TheVariants as target
use Rattle.rm_types.specs.declared.operations.Op.{Op}
use Rattle.rm_types.specs.declared.operations.Op.TheVariants as op
use Rattle.rm_events.specs.Names.{bound_to}

-- a read of the row at this row id, where there is one
abbrev pub read_of : Option Rid → Op
read_of None = op.Unbound
read_of (Some rid) = op.Read rid

-- the operation of a line, under these bindings
abbrev pub op_of : Line → List (Option Rid) → Op
op_of line.Begin names = op.Begin
op_of (line.Insert name row) names = op.Insert row
op_of (line.Read (target.Name name)) names = read_of (bound_to names name)
op_of (line.Read (target.At rid)) names = op.Read rid
op_of line.Commit names = op.Commit
