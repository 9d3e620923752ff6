use Rattle.std.specs.Prelude.{[]}
use Rattle.rm_calls.proofs.record.Record.new.Given as goal

abbrev pub ghost-of : goal.ghost-of
ghost-of a = []
