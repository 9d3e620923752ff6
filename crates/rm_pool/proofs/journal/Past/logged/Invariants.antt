use Rattle.std.specs.Prelude.{◌∷◌}
use Rattle.rm_history.specs.Acts.{act_at}
use Rattle.rm_pool.proofs.journal.Past.logged.Given as goal

-- what is passed is what was noted so far, and then the parameters in their order
abbrev pub ghost-of : goal.ghost-of
ghost-of a = record a._from.now.0.now { history = act_at a._from.now.1.0 a._from.now.2.now ∷ a._from.now.0.now.history }
