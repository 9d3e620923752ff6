use Rattle.std.proofs.Common.{◌≡◌, ap, ◌∙◌, [], sym, subst}
use Rattle.rm_outside.specs.Calls.{facts_of}
use Rattle.rm_pool.specs.Journals.{JournalValue, Known, view_of}
use Rattle.rm_pool.proofs.Journals.{all_durable, flush_between, known_of, log_flushed, stands_flushed, stands_lost}
use Rattle.rm_pool.proofs.journal.Journal.flush.Goals as goal

pub invariant_of-self : goal.invariant_of-self
invariant_of-self g c =
    let it = c.self.inside in
    let known = known_of c.self.invariant.0 c.self.view_is c.requires in
    let flush = c.in-Ok.ensures in
    rw (c.flushed-self-inside.ensures, log_flushed it.log.batch it.log.limit it.log.tail c.flush.new.self (λ none. (flush.empty none).1) flush.ok) (
      stands_flushed known c.self.invariant.0.since c.self.invariant.0.grown flush.steps.0 flush.done flush.range
          (λ none. subst (λ v. Known (facts_of g.V.Volume v) it.log it.past.history it.past.durable) (sym (flush.empty none).2) known),
      flush.steps.1 ∙ c.self.invariant.1,
    )

pub invariant_of-self-in-Err : goal.invariant_of-self-in-Err
invariant_of-self-in-Err g c =
    let steps = c.flush.ensures.steps in
    rw c.lost-self-inside.ensures (
      stands_lost (known_of c.self.invariant.0 c.self.view_is c.requires) c.self.invariant.0.since c.self.invariant.0.grown steps.0
          (λ image now. g.met.V.Volume.counts_now c.flush.new.volume (g.V.Volume.moment c.self.inside.volume) image steps.0.writes.time.later now),
      steps.1 ∙ c.self.invariant.1,
    )

pub returns-in-Ok-clause-empty : goal.returns-in-Ok-clause-empty
returns-in-Ok-clause-empty g c = λ none.
    let it = c.self.inside in
    let known = known_of c.self.invariant.0 c.self.view_is c.requires in
    let empty : it.log.tail ≡ [] = ap (λ (journal : JournalValue _). journal.log.tail) c.self.view_is ∙ none in
    let stays = c.in-Ok.ensures.empty empty in (
      stays.0,
      rw c.flushed-self-inside.ensures
          ((λ i. view_of (stays.2 i) it.opened (stays.1 i) (record it.past { durable = sym (all_durable known empty) i })) ∙ c.self.view_is),
    )

pub returns-in-Ok-clause-any_moment : goal.returns-in-Ok-clause-any_moment
returns-in-Ok-clause-any_moment g c = rw (← c.self.view_is) (flush_between (known_of c.self.invariant.0 c.self.view_is c.requires) c.flush.ensures.steps.0)

pub returns-in-Err-clause-any_moment : goal.returns-in-Err-clause-any_moment
returns-in-Err-clause-any_moment g c = rw (← c.self.view_is) (flush_between (known_of c.self.invariant.0 c.self.view_is c.requires) c.flush.ensures.steps.0)

pub returns-in-Ok-clause-modelled : goal.returns-in-Ok-clause-modelled
returns-in-Ok-clause-modelled g c = rw (← c.self.view_is) c.flush.ensures.steps.0.writes.modelled

pub returns-in-Err-clause-modelled : goal.returns-in-Err-clause-modelled
returns-in-Err-clause-modelled g c = rw (← c.self.view_is) c.flush.ensures.steps.0.writes.modelled
