use Rattle.rm_session.proofs.Pages.{insert_is}
use Rattle.rm_session.proofs.rows.insert.Goals as goal

pub returns-clause-ok : goal.returns-clause-ok
returns-clause-ok c =
    let first = rw c.as_slice-bytes.ensures.value at c.in-Some.ensures in
    let made = rw c.as_slice-bytes.ensures.value at c.in_ok-set.ensures.ok in
    insert_is c.args.pages.now c.index-pages-number.result c.set.new.self c.in-Some.number c.slots-slot.result c.args.row.now c.args.lsn first c.slots-slot.ensures.value made
