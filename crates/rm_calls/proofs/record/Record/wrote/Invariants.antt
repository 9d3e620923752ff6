use Rattle.std.specs.Prelude.{◌∷◌}
use Rattle.rm_calls.specs.Calls.{Wrote}
use Rattle.rm_calls.proofs.record.Record.wrote.Given as goal

-- what is passed is the list so far, and then the parameters in their order
abbrev pub ghost-of : goal.ghost-of
ghost-of a = Wrote a._from.now.1 a._from.now.2 a._from.now.3.now a._from.now.4 ∷ a._from.now.0.now
