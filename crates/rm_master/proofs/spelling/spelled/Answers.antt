use Rattle.std.proofs.Common.{◌≤◌, get_or, nat_eq, ap, sym, ◌∙◌, arith, rules}
use Rattle.rm_master.specs.Fields.{slot_bytes}
use Rattle.rm_master.proofs.SlotLemmas.{spelled_back, slot_flag}
use Rattle.rm_master.proofs.spelling.spelled.Goals as goal

pub returns-then-restoring-gt1-clause-none : goal.returns-then-restoring-gt1-clause-none
returns-then-restoring-gt1-clause-none c fields is = omega (arith, ap (λ l. get_or l 23 0) is, slot_flag fields)

pub returns-clause-some : goal.returns-clause-some
returns-clause-some c =
    let flag : get_or c.args.bytes.now 23 0 ≤ 1 = omega arith in
    let back = spelled_back c.args.bytes.now (search rules) (search rules) flag in
    let version = sym c.from_be_bytes.ensures in
    let pages = sym c.from_be_bytes-2.ensures in
    let batch = sym c.from_be_bytes-3.ensures in
    let checkpoint = sym c.from_be_bytes-4.ensures in
    let start = sym c.from_be_bytes-5.ensures in
    let copied = sym c.from_be_bytes-6.ensures in
    back ∙ (λ i. slot_bytes record {
      version = version i;
      pages = pages i;
      batch = batch i;
      checkpoint = checkpoint i;
      half = get_or c.args.bytes.now 22 0;
      restoring = nat_eq (get_or c.args.bytes.now 23 0) 1;
      start = start i;
      copied = copied i;
    })
