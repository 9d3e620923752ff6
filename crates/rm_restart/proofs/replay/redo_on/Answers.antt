use Rattle.std.proofs.Common.{arith}
use Rattle.rm_restart.proofs.Redone.{redone}
use Rattle.rm_restart.proofs.replay.redo_on.Goals as goal

pub returns-clause-ok : goal.returns-clause-ok
returns-clause-ok c =
    redone c.args.pages.now c.index-pages-number.result c.redo.new.page c.args.rid c.args.logged.now c.in_ok-redo.field-0 (omega arith) c.requires.lacking
    (c.in_ok-redo.ensures.applied c.args.rid.page c.requires.page)
