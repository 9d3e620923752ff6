use Rattle.rm_plain.proofs.Turns.{none_wrong, one_wrong}
use Rattle.rm_plain.proofs.laws.one_line_is_the_first_wrong.Goals as goal

pub returns : goal.returns
returns c = record { none = none_wrong; one = one_wrong }
