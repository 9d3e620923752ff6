-- A run by hand: what the definitions allow.
use Rattle.std.proofs.Common.{ℕ, List, [], ◌∷◌, true, false, refl, arith, lit<, lit≤}
use Rattle.rm_types.specs.declared.numbers.Rid.{Rid}
use Rattle.rm_plain.specs.declared.lines.Line.TheVariants as line
use Rattle.rm_events.specs.declared.lines.Target.TheVariants as target
use Rattle.rm_types.specs.declared.operations.Reply.TheVariants as reply
use Rattle.rm_model.specs.Files.{set_row}
use Rattle.rm_session.specs.Session.{IsFirstWithRoom, names_after, State, Step, Run, fresh}
use Rattle.rm_model.proofs.FileLaws.{rows_of-set_row}

-- the row of two bytes, and its place
abbrev row : List ℕ
row = 97 ∷ 97 ∷ []

abbrev rid : Rid
rid = record { page = 0; slot = 0 }

-- the first page of an empty file has room
first : IsFirstWithRoom (fresh 16).core.pages 2 0
first = record { in_file = lit< tt; room = lit≤ tt; first = λ before below. absurd (omega arith) }

-- the states between the lines
abbrev begun : State
begun = record { core = record (fresh 16).core { next = 2; active = true }; names = (fresh 16).names }

abbrev inserted : State
inserted =
    record { core = record begun.core { pages = set_row begun.core.pages rid row }; names = names_after (line.Insert 0 row) (reply.Inserted rid) begun.names }

abbrev committed : State
committed = record { core = record inserted.core { active = false }; names = inserted.names }

begin_step : Step (fresh 16) line.Begin (reply.Began (record { 0 = 1 })) begun
begin_step = record { object = refl; comes = (refl, refl, refl); names = refl }

insert_step : Step begun (line.Insert 0 row) (reply.Inserted rid) inserted
insert_step =
    record { object = (refl, rows_of-set_row begun.core.pages rid row (lit< tt)); comes = (refl, (first, refl), refl); names = refl }

read_step : Step inserted (line.Read (target.Name 0)) (reply.Row row) inserted
read_step =
    record { object = (refl, refl); comes = (refl, (lit< tt, lit≤ tt), refl); names = refl }

commit_step : Step inserted line.Commit reply.Committed committed
commit_step = record { object = refl; comes = (refl, refl); names = refl }

-- over 16 pages: begin, insert $a of two bytes, read $a, commit
pub worked_run : Run (fresh 16) (line.Begin ∷ line.Insert 0 row ∷ line.Read (target.Name 0) ∷ line.Commit ∷ []) (reply.Began (record { 0 = 1 }) ∷ reply.Inserted rid ∷ reply.Row row ∷ reply.Committed ∷ []) committed
worked_run = (begun, begin_step, (inserted, insert_step, (inserted, read_step, (committed, commit_step, refl))))
