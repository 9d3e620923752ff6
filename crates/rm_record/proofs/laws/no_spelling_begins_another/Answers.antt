use Rattle.rm_record.proofs.Decoding.{spellings_are_apart}
use Rattle.rm_record.proofs.laws.no_spelling_begins_another.Goals as goal

pub returns : goal.returns
returns c = spellings_are_apart
