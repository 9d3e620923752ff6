use Rattle.std.specs.Prelude.{◌∷◌}
use Rattle.rm_history.specs.Acts.{act_at}
use Rattle.rm_pool.proofs.frames.Frames.repeat.Given as goal

-- what is passed is what was noted so far, and the record with its LSN
abbrev pub ghost-of : goal.ghost-of
ghost-of a = act_at a._from.now.1.0 a._from.now.2.now ∷ a._from.now.0.now
