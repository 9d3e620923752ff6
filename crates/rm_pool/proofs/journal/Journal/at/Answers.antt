use Rattle.std.proofs.Common.{◌≤◌, ◌∙◌, arith, subst}
use Rattle.rm_outside.specs.Moments.{started}
use Rattle.rm_wal.specs.Tails.{end_of}
use Rattle.rm_pool.specs.Journals.{JournalValue, HasNoRecordAt}
use Rattle.rm_pool.proofs.Journals.{between_now, known_of, read_between, stands_read, at_found, none_found, none_past}
use Rattle.rm_pool.proofs.journal.Journal.at.Goals as goal

pub returns-then-lsn-end-clause-damaged : goal.returns-then-lsn-end-clause-damaged
returns-then-lsn-end-clause-damaged g c = λ area at is.
    let known = known_of c.self.invariant.0 c.self.view_is c.requires in
    let past : end_of c.self.inside.log ≤ c.args.lsn.0 = omega (arith, c.end.ensures.value, c.if-lsn-end.true) in (
      cc,
      cc,
      subst (λ (journal : JournalValue _). g.V.Volume.models_content journal.volume → HasNoRecordAt journal.history c.args.lsn.0) c.self.view_is
          (λ models. none_past known (g.met.V.Volume.content_may_stay c.self.inside.volume models) c.args.lsn.0 past),
    )

pub returns-then-lsn-end-clause-any_moment : goal.returns-then-lsn-end-clause-any_moment
returns-then-lsn-end-clause-any_moment g c =
    let known = known_of c.self.invariant.0 c.self.view_is c.requires in
    rw (← c.self.view_is) (started _ _ _ (λ image left. between_now known image (g.met.V.Volume.only_now c.self.inside.volume image left)))

pub invariant_of-self : goal.invariant_of-self
invariant_of-self g c =
    let reads = c.at.ensures.reads in
    (stands_read (known_of c.self.invariant.0 c.self.view_is c.requires) reads.0 c.self.invariant.0, reads.1 ∙ c.self.invariant.1)

pub returns-clause-found : goal.returns-clause-found
returns-clause-found g c =
    let known = known_of c.self.invariant.0 c.self.view_is c.requires in
    let at = c.at.ensures in
    rw (← c.self.view_is)
    (at_found known (λ models. g.met.V.Volume.content_may_stay c.self.inside.volume (at.reads.0.modelled models)) c.args.lsn.0 c.at.result
    at.is_record at.durable at.in_tail)

pub returns-clause-damaged : goal.returns-clause-damaged
returns-clause-damaged g c = λ area at is.
    let known = known_of c.self.invariant.0 c.self.view_is c.requires in
    let damaged = c.at.ensures.damaged area at is in (
      damaged.0,
      damaged.1,
      λ models. rw (← c.self.view_is)
          (none_found known (g.met.V.Volume.content_may_stay c.self.inside.volume (c.at.ensures.reads.0.modelled models)) c.args.lsn.0
          (λ below. damaged.2 below models) damaged.3),
    )

pub returns-clause-any_moment : goal.returns-clause-any_moment
returns-clause-any_moment g c = rw (← c.self.view_is) (read_between (known_of c.self.invariant.0 c.self.view_is c.requires) c.at.ensures.reads.0)
