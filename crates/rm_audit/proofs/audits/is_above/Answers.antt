use Rattle.std.proofs.Common.{◌≡◌, arith}
use Rattle.std.proofs.lemmas.Bool.{ltb-true, lt-ltb}
use Rattle.rm_history.specs.Acts.{acts_of, newest_lsn}
use Rattle.rm_audit.proofs.Judging.{newest_is}
use Rattle.rm_audit.proofs.audits.is_above.Goals as goal

pub returns-in-Some : goal.returns-in-Some
returns-in-Some c =
    let at = c.in-Some.ensures.item in
    let newest : newest_lsn (acts_of c.args.log.now) ≡ c.in-Some.last.now.lsn.0 = newest_is c.args.log.now c.in-Some.last.now at.3.0 at.1 in (
      λ less. omega (arith, newest, ltb-true c.in-Some.last.now.lsn.0 c.args.lsn.0 less),
      λ above. lt-ltb c.in-Some.last.now.lsn.0 c.args.lsn.0 (omega (arith, newest, above)),
    )
