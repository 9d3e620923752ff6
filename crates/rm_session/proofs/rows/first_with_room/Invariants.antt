use Rattle.std.proofs.Common.{ℕ, ◌<◌}
use Rattle.rm_model.specs.Files.{page_at, slots_of}
use Rattle.rm_session.specs.Session.{LacksRoom}
use Rattle.rm_session.proofs.rows.first_with_room.Given as goal

-- each page so far lacks room
abbrev pub invariant-loop-number : goal.invariant-loop-number
invariant-loop-number l = (page : ℕ) → page < l.number → LacksRoom (page_at (slots_of l.pages) page) l.len
