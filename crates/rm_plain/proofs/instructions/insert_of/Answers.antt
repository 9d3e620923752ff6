use Rattle.rm_plain.proofs.Spellings.{no_insert_name, no_insert_row}
use Rattle.rm_plain.proofs.instructions.insert_of.Goals as goal

pub returns-in_default-name_of-clause-none : goal.returns-in_default-name_of-clause-none
returns-in_default-name_of-clause-none c = no_insert_name c.args.text.now _ _ c.in-Some.ensures.some c.in_default-name_of.ensures.none

pub returns-in_default-2-clause-none : goal.returns-in_default-2-clause-none
returns-in_default-2-clause-none c = no_insert_row c.args.text.now _ _ c.in-Some.ensures.some (rw c.in_default-2.is at c.in_ok-row.ensures.none)
