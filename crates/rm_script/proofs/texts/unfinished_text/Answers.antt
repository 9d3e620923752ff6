use Rattle.std.proofs.Common.{append_assoc, append-nil}
use Rattle.std.proofs.lemmas.Result.{IfOk-equal}
use Rattle.rm_script.proofs.texts.unfinished_text.Goals as goal

pub returns-clause-ok : goal.returns-clause-ok
returns-clause-ok c =
    IfOk-equal c.write_line.result _ _ _ c.write_line.ensures.ok (rw (c.from.ensures, c.from-2.ensures) (simp (append_assoc, append-nil)))
