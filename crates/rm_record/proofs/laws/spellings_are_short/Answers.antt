use Rattle.rm_record.proofs.SizeLaws.{spellings_are_short}
use Rattle.rm_record.proofs.laws.spellings_are_short.Goals as goal

pub returns : goal.returns
returns c = spellings_are_short
