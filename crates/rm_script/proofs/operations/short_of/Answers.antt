use Rattle.std.proofs.Common.{rules}
use Rattle.rm_script.proofs.OperationLaws.{no_word}
use Rattle.rm_script.proofs.operations.short_of.Goals as goal

pub returns-clause-none : goal.returns-clause-none
returns-clause-none c = λ i u. no_word c.args.word.now c.args.argument.now c.requires.lacks i u (search rules) (search rules) (search rules) (search rules)
