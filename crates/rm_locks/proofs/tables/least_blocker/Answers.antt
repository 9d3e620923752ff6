use Rattle.std.proofs.Common.{◌≡◌, Option, filter, find, option_map, subst, sym, rules, tests}
use Rattle.rm_types.specs.declared.modes.Mode.{Mode}
use Rattle.std.specs.Map.Iter.{deref_pair}
use Rattle.std.proofs.lemmas.Iterator.Consumers.{YieldsList-from_rest}
use Rattle.std.proofs.lemmas.Iterator.Search.{find_from_yields_List}
use Rattle.rm_locks.specs.declared.keys.LockKey.{LockKey}
use Rattle.rm_locks.proofs.Blockers.{stops, is_after, txn_on, IsFound, searched}
use Rattle.rm_locks.proofs.tables.least_blocker.Goals as goal

pub returns : goal.returns
returns c =
    let part = filter (λ (e : LockKey × Option Mode). is_after c.args.rid e.0) c.args.entries.now.entries in
    let at = option_map deref_pair c.find.result in
    let found : at ≡ find (stops c.args.txn.0 c.args.rid c.args.mode) part =
    find_from_yields_List (stops c.args.txn.0 c.args.rid c.args.mode) _ _ c.find.result c.find.ensures.ran (YieldsList-from_rest part (c.range.ensures.between tt)) (λ x b q k. search (rules, tests)) in
    let end : c.map.result ≡ txn_on c.args.rid at = search rules in
    let is = subst (IsFound c.args.entries.now.entries c.args.txn.0 c.args.rid c.args.mode) (sym end)
    (searched c.args.entries.now c.range.ensures.ordered c.args.txn.0 c.args.rid c.args.mode (rw (c.range.ensures.between tt) at (c.range.ensures.in_range tt).0) at found) in
    record { some = is.0; none = is.1 }
