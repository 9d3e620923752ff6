use Rattle.rm_master.specs.Fields.{slot_bytes}
use Rattle.rm_master.proofs.spelling.spelling.Goals as goal

pub returns : goal.returns
unfolding slot_bytes
returns c = rw (c.to_be_bytes.ensures, c.to_be_bytes-2.ensures, c.to_be_bytes-3.ensures, c.to_be_bytes-4.ensures, c.to_be_bytes-5.ensures, c.to_be_bytes-6.ensures)
