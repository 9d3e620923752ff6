use Rattle.std.proofs.Common.{inl, inr, arith}
use Rattle.std.proofs.lemmas.Bool.{cases_Bool}
use Rattle.std.proofs.lemmas.Grind.{common_steps}
use Rattle.rm_locks.specs.LockTable.{is_same_lock}
use Rattle.rm_locks.proofs.Granted.{same_lock}
use Rattle.rm_locks.proofs.tables.make_room.Goals as goal

pub returns-in_ok-list-in-Vacant-clause-listed : goal.returns-in_ok-list-in-Vacant-clause-listed
returns-in_ok-list-in-Vacant-clause-listed c = λ all other at ready. elim (cases_Bool (is_same_lock c.args.txn.0 c.args.rid other at)) [
  | inl same ↦ let it = same_lock c.args.txn.0 other c.args.rid at same in rw (← it.0, ← it.1) c.in_ok-list-in-Vacant.ensures.listed
  | inr apart ↦ c.list.ensures.others other at (all other at (grind (arith, common_steps)))
]
