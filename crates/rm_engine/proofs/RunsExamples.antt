-- The definitions of a run's rows and of a line's changes, on examples.
use Rattle.std.proofs.Common.{◌≡◌, ℕ, List, [], ◌∷◌, true, false, Some, None, refl, sym, arith, lit<, lit≤}
use Rattle.std.proofs.lemmas.Bool.{true≢false}
use Rattle.rm_types.specs.declared.numbers.Rid.{Rid}
use Rattle.rm_types.specs.declared.numbers.TxnId.{TxnId}
use Rattle.rm_types.specs.declared.slots.Slot.TheVariants.{Row}
use Rattle.rm_plain.specs.declared.lines.Line.{Line}
use Rattle.rm_plain.specs.declared.lines.Line.TheVariants as line
use Rattle.rm_events.specs.declared.lines.Target.TheVariants as target
use Rattle.rm_types.specs.declared.operations.Reply.{Reply}
use Rattle.rm_types.specs.declared.operations.Reply.TheVariants as reply
use Rattle.rm_model.specs.Object.{Rows}
use Rattle.rm_session.specs.Session.{IsPlaceFor, Core}
use Rattle.rm_engine.specs.At.{count_after, committed_after, IsCommitOf, Changes}
use Rattle.rm_engine.specs.Numbers.{LacksIds}
use Rattle.rm_engine.specs.Runs.{acknowledged, open_with, open_after, put, rows_after}

-- two rows, and their places: the first two slots of the first page
abbrev two : List ℕ
two = 97 ∷ 97 ∷ []

abbrev one : List ℕ
one = 98 ∷ []

abbrev first : Rid
first = record { page = 0; slot = 0 }

abbrev second : Rid
second = record { page = 0; slot = 1 }

-- two transactions insert a row each, and the second does not commit
abbrev lines : List Line
lines = line.Begin ∷ line.Insert 0 two ∷ line.Commit ∷ line.Begin ∷ line.Insert 1 one ∷ line.Read (target.Name 0) ∷ []

abbrev replies : List Reply
replies = reply.Began (record { 0 = 1 }) ∷ reply.Inserted first ∷ reply.Committed ∷ reply.Began (record { 0 = 2 }) ∷ reply.Inserted second ∷ reply.Row two ∷ []

-- no rows
abbrev none : Rows
none = λ rid. None

one_acknowledged : acknowledged replies ≡ 1
one_acknowledged = refl

one_open : open_after replies 0 ≡ 1
one_open = refl

-- of no transaction there are no rows, of the one that committed there is its own, and with the open one there are both
after_none : (rows_after lines replies 0 none first ≡ None) × (rows_after lines replies 0 none second ≡ None)
after_none = (refl, refl)

after_first : (rows_after lines replies 1 none first ≡ Some two) × (rows_after lines replies 1 none second ≡ None)
after_first = (refl, refl)

after_both : (rows_after lines replies 2 none first ≡ Some two) × (rows_after lines replies 2 none second ≡ Some one)
after_both = (refl, refl)

-- the row of the later commit does not come before that of the earlier one
not_the_later : rows_after lines replies 1 none second ≡ Some one → ⊥
not_the_later is = cc

not_without_the_first : rows_after lines replies 2 none first ≡ None → ⊥
not_without_the_first is = cc

-- of two rows at one place the later stands
later_stands : rows_after (line.Begin ∷ line.Insert 0 two ∷ line.Insert 1 one ∷ [])
    (reply.Began (record { 0 = 1 }) ∷ reply.Inserted first ∷ reply.Inserted first ∷ []) 1 none first ≡ Some one
later_stands = refl

-- a begin opens a transaction, a commit ends it, and any other reply leaves what is open
opens : (open_with (reply.Began (record { 0 = 7 })) 0 ≡ 1) × (open_with reply.Committed 1 ≡ 0) × (open_with reply.Skipped 1 ≡ 1)
opens = (refl, refl, refl)

none_open : open_after (reply.Began (record { 0 = 1 }) ∷ reply.NoSpace ∷ reply.Committed ∷ reply.Skipped ∷ []) 0 ≡ 0
none_open = refl

-- an insert that found its place puts its row there, and nothing elsewhere
put_there : (put none (line.Insert 0 two) (reply.Inserted second) second ≡ Some two) × (put none (line.Insert 0 two) (reply.Inserted second) first ≡ None)
put_there = (refl, refl)

-- one outside of a transaction, and one that found no space, put nothing
module _ (rows : Rows) where
  put_nothing : (put rows (line.Insert 0 two) reply.Skipped ≡ rows) × (put rows (line.Insert 0 two) reply.NoSpace ≡ rows)
  put_nothing = (refl, refl)

  rows_stay : rows_after (line.Insert 0 two ∷ line.Begin ∷ line.Insert 0 two ∷ line.Commit ∷ [])
      (reply.Skipped ∷ reply.Began (record { 0 = 1 }) ∷ reply.NoSpace ∷ reply.Committed ∷ []) 1 rows ≡ rows
  rows_stay = refl

-- a session over one page with a row, with no transaction and with one
abbrev idle : Core
idle = record { pages = (Row two ∷ []) ∷ []; next = 2; active = false }

abbrev busy : Core
busy = record { pages = (Row two ∷ []) ∷ []; next = 3; active = true }

abbrev filled : Core
filled = record { pages = (Row two ∷ Row one ∷ []) ∷ []; next = 3; active = true }

-- a begin takes the next id
begin_changes : Changes idle line.Begin (reply.Began (record { 0 = 2 })) busy
begin_changes = (refl, refl)

-- an insert takes the second slot of the page
place : IsPlaceFor busy.pages 1 second
place = (record { in_file = lit< tt; room = lit≤ tt; first = λ before below. absurd (omega arith) }, refl)

insert_changes : Changes busy (line.Insert 1 one) (reply.Inserted second) filled
insert_changes = (refl, place, refl)

-- a commit ends the transaction
commit_changes : Changes filled line.Commit reply.Committed (record { pages = (Row two ∷ Row one ∷ []) ∷ []; next = 3; active = false })
commit_changes = (refl, refl)

-- a read leaves the session as it was
read_changes : Changes busy (line.Read (target.Name 0)) (reply.Row two) busy
read_changes = (tt, refl)

-- no begin has the reply that it committed, and no read that it inserted
no_commit_of_begin : (new : Core) → Changes idle line.Begin reply.Committed new → ⊥
no_commit_of_begin new changes = changes.0

no_insert_of_read : (new : Core) → Changes busy (line.Read (target.Name 0)) (reply.Inserted second) new → ⊥
no_insert_of_read new changes = changes.0

-- a transaction has no begin, and outside of one nothing is inserted or committed
no_begin_inside : (new : Core) → Changes busy line.Begin (reply.Began (record { 0 = 3 })) new → ⊥
no_begin_inside new changes = true≢false changes.0

no_insert_outside : (new : Core) → Changes idle (line.Insert 1 one) (reply.Inserted second) new → ⊥
no_insert_outside new changes = true≢false (sym changes.0)

no_commit_outside : (new : Core) → Changes idle line.Commit reply.Committed new → ⊥
no_commit_outside new changes = true≢false (sym changes.0)

-- a commit counts, and what the pages show is committed; any other reply leaves both
counts : (count_after reply.Committed 3 ≡ 4) × (count_after (reply.Began (record { 0 = 1 })) 3 ≡ 3) × (count_after reply.Skipped 3 ≡ 3)
counts = (refl, refl, refl)

committed : (shown rows : Rows) → (committed_after reply.Committed shown rows ≡ shown) × (committed_after (reply.Inserted first) shown rows ≡ rows)
committed shown rows = (refl, refl)

-- a commit outside of a transaction, and another line inside one, commit nothing
commits : IsCommitOf busy line.Commit
commits = refl

commits_none : (IsCommitOf idle line.Commit → ⊥) × (IsCommitOf busy line.Begin → ⊥)
commits_none = (λ is. true≢false (sym is), λ is. is)

-- the last id is 4294967295: after it a begin outside of a transaction lacks one, and before it none does
spent : LacksIds (record { pages = []; next = 4294967296; active = false }) line.Begin (record { 0 = 4294967295 })
spent = (refl, refl, refl)

not_spent : (last : TxnId) → LacksIds (record { pages = []; next = 4294967295; active = false }) line.Begin last → ⊥
not_spent last lacks = omega (arith, lacks.1)

not_inside : (last : TxnId) → LacksIds (record { pages = []; next = 4294967296; active = true }) line.Begin last → ⊥
not_inside last lacks = true≢false lacks.0
