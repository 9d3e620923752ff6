use Rattle.std.proofs.Common.{◌≡◌, ℕ, ◌+◌, ◌<◌, arith}
use Rattle.rm_types.specs.declared.slots.TheConstants.{CAPACITY}
use Rattle.rm_model.specs.Pages.{used}
use Rattle.rm_history.specs.Acts.{acts_of}
use Rattle.rm_history.specs.Contents.{page_of}
use Rattle.rm_audit.proofs.Sums.{needs_are}
use Rattle.rm_audit.proofs.needs.fits.Goals as goal

pub returns-in-Some : goal.returns-in-Some
returns-in-Some c =
    let are = λ (n : ℕ). needs_are (acts_of c.args.log.now) _ c.args.number n c.in_ok-pending.ensures in
    let used_is : c.used-used.result ≡ used (page_of (acts_of c.args.log.now) c.args.number) =
    rw (c.deref.ensures.value, c.in_ok-page.ensures) at c.used-used.ensures in
    let room : c.used-used.result + c.in-Some.room ≡ CAPACITY = omega (arith, c.in-Some.ensures) in (
      λ yes n. omega (arith, c.needs_fit.ensures.0 yes n, are n, used_is, room),
      λ within. c.needs_fit.ensures.1 (λ n. omega (arith, within n, are n, used_is, room)),
    )

pub returns-in-None : goal.returns-in-None
returns-in-None c =
    let used_is : c.used-used.result ≡ used (page_of (acts_of c.args.log.now) c.args.number) =
    rw (c.deref.ensures.value, c.in_ok-page.ensures) at c.used-used.ensures in
    let above : CAPACITY < c.used-used.result = omega (arith, c.in-None.ensures) in
    (λ yes. cc, λ within. absurd (omega (arith, within 0, used_is, above)))
