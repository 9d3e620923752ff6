-- How much of a log is used, and which line lacks room, on examples.
use Rattle.std.proofs.Common.{◌≡◌, ℕ, List, [], ◌∷◌, true, false, refl, arith, lit<}
use Rattle.rm_types.specs.declared.numbers.Rid.{Rid}
use Rattle.rm_plain.specs.declared.lines.Line.TheVariants as line
use Rattle.rm_types.specs.declared.operations.Reply.TheVariants as reply
use Rattle.rm_session.specs.Session.{Core, IsFirstWithRoom}
use Rattle.rm_engine.specs.Numbers.{Used, used_after, LacksRoom}
use Rattle.rm_engine.specs.Runs.{HasLogRoom}

abbrev row : List ℕ
row = 97 ∷ 97 ∷ []

abbrev place : Rid
place = record { page = 0; slot = 0 }

-- a log without batches
abbrev start : Used
start = record { batch = 0; tail = 0; inserts = 0 }

abbrev begun : Used
begun = used_after line.Begin (reply.Began (record { 0 = 1 })) start

abbrev inserted : Used
inserted = used_after (line.Insert 0 row) (reply.Inserted place) begun

-- a begin, an insert of two bytes and a commit fill the bytes up to 35, where the next gate stands
tail_of_insert : inserted ≡ record { batch = 0; tail = 25; inserts = 1 }
tail_of_insert = refl

batch_of_commit : used_after line.Commit reply.Committed inserted ≡ record { batch = 35; tail = 0; inserts = 1 }
batch_of_commit = refl

-- a new transaction has no inserts, and a line that is skipped uses nothing
new_begin : used_after line.Begin (reply.Began (record { 0 = 2 })) (record { batch = 35; tail = 0; inserts = 1 }) ≡ record { batch = 35; tail = 0; inserts = 0 }
new_begin = refl

skipped : used_after line.Commit reply.Skipped inserted ≡ inserted
skipped = refl

-- a tail of 1,048,576 bytes is not flushed before a record, and one byte more is
not_long : used_after (line.Insert 0 row) (reply.Inserted place) (record { batch = 0; tail = 1048576; inserts = 7 }) ≡ record { batch = 0; tail = 1048601; inserts = 8 }
not_long = refl

long : used_after (line.Insert 0 row) (reply.Inserted place) (record { batch = 0; tail = 1048577; inserts = 7 }) ≡ record { batch = 1048582; tail = 25; inserts = 8 }
long = refl

-- one page without rows
abbrev idle : Core
idle = record { pages = [] ∷ []; next = 1; active = false }

abbrev busy : Core
busy = record { pages = [] ∷ []; next = 2; active = true }

-- the row has a place there
first_page : IsFirstWithRoom busy.pages 2 0
first_page = record { in_file = lit< tt; room = omega arith; first = λ before lt. absurd (omega (arith, lt)) }

-- a begin needs 64 bytes after the end
begin_lacks : LacksRoom 68 idle start line.Begin 5
begin_lacks = (refl, lit< tt, refl, lit< tt)

begin_fits : HasLogRoom 69 idle start line.Begin
begin_fits = λ end lacks. omega (arith, lacks.2, lacks.3)

-- the insert needs its record of 25 bytes, 32 more, and the 128 that are owed with it
insert_lacks : LacksRoom 189 busy start (line.Insert 0 row) 5
insert_lacks = ((refl, (0, first_page)), refl, lit< tt)

insert_fits : HasLogRoom 190 busy start (line.Insert 0 row)
insert_fits = λ end lacks. omega (arith, lacks.1, lacks.2)
