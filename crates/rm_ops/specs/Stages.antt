-- The machine's stage of a session, by its operation and the stage without rows.
use Rattle.std.specs.Prelude.{ℕ, List, [], length}
use Rattle.rm_types.specs.declared.slots.Slot.{Slot}
use Rattle.rm_types.specs.declared.slots.Slot.TheVariants.{Vacant, Row}
use Rattle.rm_core.specs.Below.{Rid, Op}
use Rattle.rm_core.specs.Names as core
use Rattle.rm_events.specs.declared.operations.Op.TheVariants as ops
use Rattle.rm_ops.specs.declared.stages.Aim.{Aim}
use Rattle.rm_ops.specs.declared.stages.Aim.TheVariants as aims
use Rattle.rm_ops.specs.declared.stages.Asked.{Asked}
use Rattle.rm_ops.specs.declared.stages.Asked.TheVariants as asks
use Rattle.rm_ops.specs.declared.stages.Made.{Made}
use Rattle.rm_ops.specs.declared.stages.Made.TheVariants as makes
use Rattle.rm_ops.specs.declared.stages.Stage.{Stage}
use Rattle.rm_ops.specs.declared.stages.Stage.TheVariants as stages

-- the row that an operation brings
abbrev pub row_in : Op → List ℕ
row_in (ops.Insert row) = row
row_in (ops.Update rid row) = row
row_in other = []

-- an operation without its row
abbrev pub asked_by : Op → Asked
asked_by ops.Begin = asks.Begin
asked_by (ops.Insert row) = asks.Insert (length row)
asked_by (ops.Read rid) = asks.Read rid
asked_by (ops.Update rid row) = asks.Update rid (length row)
asked_by (ops.Delete rid) = asks.Delete rid
asked_by (ops.Save number) = asks.Save number
asked_by (ops.Back number) = asks.Back number
asked_by ops.Commit = asks.Commit
asked_by ops.Abort = asks.Abort
asked_by ops.Unbound = asks.Unbound

-- what the slot of an update or delete is to hold
abbrev pub new_slot : Op → Slot
new_slot (ops.Update rid row) = Row row
new_slot other = Vacant

-- what a session is to be told once its change is settled
abbrev pub outcome_with : Op → Made → Rid → core.Outcome
outcome_with op makes.Inserted rid = core.inserted (row_in op) rid
outcome_with op makes.Altered rid = core.altered rid (new_slot op)

abbrev pub aim_with : Op → Aim → core.Aim
aim_with op aims.Abort = core.undoes_all core.aborted
aim_with op (aims.Die holder) = core.undoes_all (core.died op holder.0)
aim_with op (aims.Back number at) = core.returns number at.0

abbrev pub stage_with : Op → Stage → core.Stage
stage_with op stages.Idle = core.idle
stage_with op (stages.Seeks from) = core.seeks (row_in op) from
stage_with op (stages.Wants page) = core.wants (row_in op) page
stage_with op (stages.Tries page) = core.tries (row_in op) page
stage_with op (stages.Reads rid) = core.reads rid
stage_with op (stages.Fetches rid) = core.fetches rid
stage_with op (stages.Alters rid) = core.alters rid (new_slot op)
stage_with op (stages.Sets rid) = core.sets rid (new_slot op)
stage_with op (stages.Settles made rid) = core.settles (outcome_with op made rid) rid.page
stage_with op stages.Forces = core.forces
stage_with op stages.Finishes = core.finishes
stage_with op (stages.Rolls aim) = core.rolls (aim_with op aim)
stage_with op (stages.Prepares aim page) = core.prepares (aim_with op aim) page
stage_with op (stages.Compensates aim page) = core.compensates (aim_with op aim) page
