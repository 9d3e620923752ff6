use Rattle.std.proofs.Common.{take, rules}
use Rattle.rm_history.specs.Acts.{acts_of}
use Rattle.rm_audit.proofs.Prefixes.{log_has_record}
use Rattle.rm_audit.proofs.listings.forgotten.Goals as goal

pub returns-then-is_forgotten : goal.returns-then-is_forgotten
returns-then-is_forgotten c =
    let before = acts_of (take c.loop-logged.logged-index c.args.log.now) in
    let is = c.if-is_forgotten.ensures in (
      is.0,
      log_has_record c.args.log.now c.loop-logged.logged-index c.logged-item.result c.in-Some.txn.0 (search rules) c.logged-item.is
          (c.in-Some.ensures.some before),
      is.1,
      is.2,
    )
