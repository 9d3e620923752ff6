use Rattle.std.proofs.Common.{take, rules, arith}
use Rattle.rm_history.specs.Acts.{acts_of}
use Rattle.rm_audit.proofs.Prefixes.{log_has_record}
use Rattle.rm_audit.proofs.listings.not_below.Goals as goal

pub returns-then-txn-next : goal.returns-then-txn-next
returns-then-txn-next c =
    let before = acts_of (take c.loop-logged.logged-index c.args.log.now) in (
      log_has_record c.args.log.now c.loop-logged.logged-index c.logged-item.result c.in-Some.txn.0 (search rules) c.logged-item.is
          (c.in-Some.ensures.some before),
      λ below. absurd (omega arith),
    )
