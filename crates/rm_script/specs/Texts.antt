-- How replies and the other lines that are printed are written.
use Rattle.std.specs.Prelude.{ℕ, List, [], ◌∷◌, ◌++◌, codes, decimal}
use Rattle.rm_types.specs.declared.numbers.Rid.{Rid}
use Rattle.rm_events.specs.declared.operations.Reply.{Reply}
use Rattle.rm_events.specs.declared.operations.Reply.TheVariants as reply
use Rattle.rm_script.specs.Rows.{hex}
use Rattle.rm_script.specs.Targets.{place}

-- a row as it is printed: an empty one as a dash
abbrev pub shown : List ℕ → List ℕ
shown [] = codes "-"
shown (byte ∷ bytes) = hex (byte ∷ bytes)

-- a reply in words
abbrev pub words_of : Reply → List ℕ
words_of (reply.Began id) = codes "begin " ++ decimal id.0
words_of (reply.Inserted rid) = codes "inserted " ++ place rid
words_of reply.NoSpace = codes "nospace"
words_of (reply.Row row) = codes "row " ++ shown row
words_of reply.NoRow = codes "norow"
words_of reply.Updated = codes "updated"
words_of reply.Deleted = codes "deleted"
words_of (reply.PageFull room) = codes "pagefull " ++ decimal room
words_of reply.BadRid = codes "badrid"
words_of (reply.Saved number) = codes "saved " ++ decimal number
words_of (reply.BackTo number) = codes "back " ++ decimal number
words_of (reply.NoSavepoint number) = codes "nosavepoint " ++ decimal number
words_of reply.Committed = codes "committed"
words_of reply.Aborted = codes "aborted"
words_of (reply.Died holder) = codes "died " ++ decimal holder.0
words_of reply.Unbound = codes "unbound"
words_of reply.Skipped = codes "skipped"

-- a reply as one line
abbrev pub text_of : Reply → List ℕ
text_of reply = words_of reply ++ codes "\n"

-- a reply as a line of `turns`: the session's number stands before it
abbrev pub turn_line : ℕ → Reply → List ℕ
turn_line session reply = decimal session ++ codes " " ++ text_of reply

-- a session that waits for the transaction that has a lock
abbrev pub waits_line : ℕ → ℕ → List ℕ
waits_line session holder = decimal session ++ codes " waits " ++ decimal holder ++ codes "\n"

-- a transaction that its session left open
abbrev pub unfinished_line : ℕ → ℕ → List ℕ
unfinished_line session txn = decimal session ++ codes " unfinished " ++ decimal txn ++ codes "\n"

-- a volume that was created, with this many pages
abbrev pub created_line : ℕ → List ℕ
created_line pages = codes "created " ++ decimal pages ++ codes "\n"

-- what a restart did: the records that it read, applied and undid
abbrev pub restart_line : ℕ → ℕ → ℕ → List ℕ
restart_line records applied undone = codes "records " ++ decimal records ++ codes " applied " ++ decimal applied ++ codes " undone " ++ decimal undone ++ codes "\n"

-- how many rows a volume has
abbrev pub rows_line : ℕ → List ℕ
rows_line rows = codes "rows " ++ decimal rows ++ codes "\n"

-- a row and its place
abbrev pub row_line : Rid → List ℕ → List ℕ
row_line rid row = place rid ++ codes " " ++ shown row ++ codes "\n"

-- the inventory's entry of a page
abbrev pub entry_line : ℕ → ℕ → List ℕ
entry_line page category = codes "entry " ++ decimal page ++ codes " " ++ decimal category ++ codes "\n"

-- how many pages a volume has
abbrev pub pages_line : ℕ → List ℕ
pages_line pages = codes "pages " ++ decimal pages ++ codes "\n"

-- and how many of their entries are not their categories
abbrev pub mismatches_line : ℕ → ℕ → List ℕ
mismatches_line pages mismatches = codes "pages " ++ decimal pages ++ codes " mismatches " ++ decimal mismatches ++ codes "\n"
