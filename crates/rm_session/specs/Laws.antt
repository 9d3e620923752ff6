-- What holds of all sessions.
use Rattle.std.specs.Prelude.{◌≡◌, List}
use Rattle.rm_types.specs.declared.operations.Reply.{Reply}
use Rattle.rm_plain.specs.declared.lines.Line.{Line}
use Rattle.rm_session.specs.Session.{State, Run}

-- every script draws replies, in every state
abbrev pub EveryScriptRuns : Type 0
EveryScriptRuns = (old : State) (lines : List Line) → (replies : List Reply) × (new : State) × Run old lines replies new

-- and no others
abbrev pub RunsAreOne : Type 0
RunsAreOne = (lines : List Line) (old new other : State) (replies others : List Reply) → Run old lines replies new → Run old lines others other → (replies ≡ others) × (new ≡ other)
