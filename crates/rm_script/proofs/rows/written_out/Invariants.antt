use Rattle.std.proofs.Common.{◌≡◌, ◌++◌, length}
use Rattle.rm_script.specs.Rows.{hex}
use Rattle.rm_script.proofs.HexRows.{AreBytes}
use Rattle.rm_script.proofs.rows.written_out.Given as goal

-- the bytes so far are spelled before what is left
abbrev pub invariant-loop-rest : goal.invariant-loop-rest
invariant-loop-rest l = (l.text ≡ hex l.bytes.items ++ l.rest) × AreBytes l.bytes.items

abbrev pub decreases-loop-rest : goal.decreases-loop-rest
decreases-loop-rest l = length l.rest
