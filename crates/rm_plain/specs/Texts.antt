-- How replies are written.
use Rattle.std.specs.Prelude.{ℕ, List, ◌++◌, codes, decimal}
use Rattle.std.specs.List.{flat_map}
use Rattle.rm_types.specs.declared.operations.Reply.{Reply}
use Rattle.rm_types.specs.declared.operations.Reply.TheVariants as reply
use Rattle.rm_script.specs.Targets.{place}
use Rattle.rm_script.specs.Texts.{shown}

-- a reply in words
abbrev pub words_of : Reply → List ℕ
words_of (reply.Began id) = codes "begin " ++ decimal id.0
words_of (reply.Inserted rid) = codes "inserted " ++ place rid
words_of reply.NoSpace = codes "nospace"
words_of (reply.Row row) = codes "row " ++ shown row
words_of reply.NoRow = codes "norow"
words_of reply.BadRid = codes "badrid"
words_of reply.Committed = codes "committed"
words_of reply.Unbound = codes "unbound"
words_of reply.Skipped = codes "skipped"

-- a reply as one line
abbrev pub text_of : Reply → List ℕ
text_of reply = words_of reply ++ codes "\n"

-- the replies, each as its line
abbrev pub texts_of : List Reply → List ℕ
texts_of replies = flat_map text_of replies

-- a reply as a line of `turns`: the session's number stands before it
abbrev pub turn_line : ℕ → Reply → List ℕ
turn_line session reply = decimal session ++ codes " " ++ text_of reply

-- the replies of one session, each as its line
abbrev pub turn_lines : ℕ → List Reply → List ℕ
turn_lines session replies = flat_map (turn_line session) replies
