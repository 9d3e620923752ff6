use Rattle.std.proofs.Common.{◌≡◌, ◌++◌, take}
use Rattle.rm_script.specs.Parts.{parts_text}
use Rattle.rm_script.proofs.parts.append_line.Given as goal

abbrev pub invariant-loop-part : goal.invariant-loop-part
invariant-loop-part l = l.out.items ≡ l.fn.out.items ++ parts_text (take l.part-index l.parts)
