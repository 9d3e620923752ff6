use Rattle.rm_plain.proofs.TextLines.{texts_are_lines}
use Rattle.rm_plain.proofs.laws.each_text_is_one_line.Goals as goal

pub returns : goal.returns
returns c = texts_are_lines
