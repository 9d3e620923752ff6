-- A step of the session changes it by its line and its reply.
use Rattle.std.proofs.Common.{◌≡◌, Option, Some, None}
use Rattle.rm_types.specs.declared.numbers.Rid.{Rid}
use Rattle.rm_plain.specs.declared.lines.Line.{Line}
use Rattle.rm_plain.specs.declared.lines.Line.TheVariants as line
use Rattle.rm_events.specs.declared.lines.Target.{Target}
use Rattle.rm_events.specs.declared.lines.Target.TheVariants as target
use Rattle.rm_types.specs.declared.operations.Op.TheVariants as op
use Rattle.rm_types.specs.declared.operations.Reply.{Reply}
use Rattle.rm_types.specs.declared.operations.Reply.TheVariants as reply
use Rattle.rm_events.specs.Names.{bound_to}
use Rattle.rm_plain.specs.Lines.{read_of}
use Rattle.rm_session.specs.Session.{Core, State, Comes, Step}
use Rattle.rm_engine.specs.At.{Changes, NotChanged}

read_changes : (old new : Core) (rid : Rid) (told : Reply) → Comes old (op.Read rid) told new → NotChanged told × (new ≡ old)
read_changes old new rid (reply.Began id) comes = absurd comes
read_changes old new rid (reply.Inserted at) comes = absurd comes
read_changes old new rid reply.NoSpace comes = absurd comes
read_changes old new rid (reply.Row row) comes = (tt, comes.2)
read_changes old new rid reply.NoRow comes = (tt, comes.2)
read_changes old new rid reply.BadRid comes = (tt, comes.2)
read_changes old new rid reply.Committed comes = absurd comes
read_changes old new rid reply.Unbound comes = absurd comes
read_changes old new rid reply.Skipped comes = (tt, comes.1)

of_target : (old new : Core) (found : Option Rid) (told : Reply) → Comes old (read_of found) told new → NotChanged told × (new ≡ old)
of_target old new None (reply.Began id) comes = absurd comes
of_target old new None (reply.Inserted at) comes = absurd comes
of_target old new None reply.NoSpace comes = absurd comes
of_target old new None (reply.Row row) comes = absurd comes
of_target old new None reply.NoRow comes = absurd comes
of_target old new None reply.BadRid comes = absurd comes
of_target old new None reply.Committed comes = absurd comes
of_target old new None reply.Unbound comes = (tt, comes)
of_target old new None reply.Skipped comes = absurd comes
of_target old new (Some rid) told comes = read_changes old new rid told comes

-- what a read changes, in any of its replies
changes_read : (old new : Core) (read : Target) (told : Reply) → NotChanged told × (new ≡ old) → Changes old (line.Read read) told new
changes_read old new read (reply.Began id) same = same
changes_read old new read (reply.Inserted at) same = same
changes_read old new read reply.NoSpace same = same
changes_read old new read (reply.Row row) same = same
changes_read old new read reply.NoRow same = same
changes_read old new read reply.BadRid same = same
changes_read old new read reply.Committed same = same
changes_read old new read reply.Unbound same = same
changes_read old new read reply.Skipped same = same

pub changes : (old new : State) (asked : Line) (told : Reply) → Step old asked told new → Changes old.core asked told new.core
changes old new line.Begin (reply.Began id) step = (step.comes.0, step.comes.2)
changes old new line.Begin (reply.Inserted at) step = absurd step.comes
changes old new line.Begin reply.NoSpace step = absurd step.comes
changes old new line.Begin (reply.Row row) step = absurd step.comes
changes old new line.Begin reply.NoRow step = absurd step.comes
changes old new line.Begin reply.BadRid step = absurd step.comes
changes old new line.Begin reply.Committed step = absurd step.comes
changes old new line.Begin reply.Unbound step = absurd step.comes
changes old new line.Begin reply.Skipped step = (tt, step.comes.1)
changes old new (line.Insert name row) (reply.Began id) step = absurd step.comes
changes old new (line.Insert name row) (reply.Inserted at) step = step.comes
changes old new (line.Insert name row) reply.NoSpace step = (tt, step.comes.2)
changes old new (line.Insert name row) (reply.Row other) step = absurd step.comes
changes old new (line.Insert name row) reply.NoRow step = absurd step.comes
changes old new (line.Insert name row) reply.BadRid step = absurd step.comes
changes old new (line.Insert name row) reply.Committed step = absurd step.comes
changes old new (line.Insert name row) reply.Unbound step = absurd step.comes
changes old new (line.Insert name row) reply.Skipped step = (tt, step.comes.1)
changes old new (line.Read (target.Name name)) told step = changes_read old.core new.core (target.Name name) told (of_target old.core new.core (bound_to old.names name) told step.comes)
changes old new (line.Read (target.At rid)) told step = changes_read old.core new.core (target.At rid) told (read_changes old.core new.core rid told step.comes)
changes old new line.Commit (reply.Began id) step = absurd step.comes
changes old new line.Commit (reply.Inserted at) step = absurd step.comes
changes old new line.Commit reply.NoSpace step = absurd step.comes
changes old new line.Commit (reply.Row row) step = absurd step.comes
changes old new line.Commit reply.NoRow step = absurd step.comes
changes old new line.Commit reply.BadRid step = absurd step.comes
changes old new line.Commit reply.Committed step = step.comes
changes old new line.Commit reply.Unbound step = absurd step.comes
changes old new line.Commit reply.Skipped step = (tt, step.comes.1)
