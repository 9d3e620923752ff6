use Rattle.std.proofs.Common.{rules, take}
use Rattle.rm_history.specs.Acts.{acts_of}
use Rattle.rm_audit.proofs.Prefixes.{log_has_change}
use Rattle.rm_audit.proofs.transactions.open_other.Goals as goal

pub returns-then-not-is_finished : goal.returns-then-not-is_finished
returns-then-not-is_finished c =
    let before = acts_of (take c.loop-logged.logged-index c.args.log.now) in (
      search rules,
      log_has_change c.args.log.now c.loop-logged.logged-index c.logged-item.result c.in-Some.other.0 c.args.rid
          (search rules) c.logged-item.is (c.in-Some.ensures.some before),
      search rules,
    )
