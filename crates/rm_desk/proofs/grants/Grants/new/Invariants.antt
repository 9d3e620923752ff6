use Rattle.std.specs.Prelude.{[]}
use Rattle.rm_desk.proofs.grants.Grants.new.Given as goal

abbrev pub ghost-of : goal.ghost-of
ghost-of a = []
