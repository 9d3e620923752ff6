use Rattle.std.specs.Prelude.{[]}
use Rattle.rm_pool.proofs.frames.Frames.new.Given as goal

abbrev pub ghost-of : goal.ghost-of
ghost-of a = []
