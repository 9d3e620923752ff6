use Rattle.std.proofs.Common.{length, refl, ap, subst, ◌∙◌}
use Rattle.rm_types.specs.declared.areas.Area.TheVariants.{Log}
use Rattle.rm_outside.specs.Calls.{IsStoreFaultIn, facts_of}
use Rattle.rm_history.specs.Pending.{all_pending}
use Rattle.rm_history.specs.Transactions.{greatest_txn}
use Rattle.rm_pool.specs.Stores.{StoreValue}
use Rattle.rm_recovery.specs.Undone.{GoesOn, IsStop, Stepped}
use Rattle.rm_recovery.proofs.Openings.{begun_is, explains_undo, opens, stops_with}
use Rattle.rm_recovery.proofs.restarting.finish.Goals as goal

pub returns-in-Ok-clause-opens : goal.returns-in-Ok-clause-opens
returns-in-Ok-clause-opens g c =
    let same = begun_is c.args.volume c.args.found c.deref.result.now c.over-journal.result c.over-store.result c.deref.ensures.value c.over-journal.ensures c.over-store.ensures in
    let step =
    subst (λ (s : StoreValue _). Stepped (g.V.Volume.models_content c.over-store.result.journal.volume)
    (g.V.Volume.models_content c.undo_losers.new.store.journal.volume) s c.undo_losers.new.store) same c.undo_losers.ensures.step in
    let all = c.in-Ok.ensures in
    rw c.from-next.ensures (opens c.requires.found c.args.volume (g.V.Volume.models_content c.undo_losers.new.store.journal.volume)
    (λ models. subst (λ (s : StoreValue _). g.V.Volume.models_content s.journal.volume) same models) c.undo_losers.new.store step c.in-Ok.undone
    (subst (λ (s : StoreValue _). GoesOn s c.undo_losers.new.store) same all.goes) all.durable all.flushed all.none all.ended
    (all.greatest ∙ ap (λ (s : StoreValue _). greatest_txn s.journal.history) same) (all.count ∙ ap (λ (s : StoreValue _). length (all_pending s.journal.history)) same))

pub returns-clause-stops : goal.returns-clause-stops
returns-clause-stops g c =
    let same = begun_is c.args.volume c.args.found c.deref.result.now c.over-journal.result c.over-store.result c.deref.ensures.value c.over-journal.ensures c.over-store.ensures in
    let step =
    subst (λ (s : StoreValue _). Stepped (g.V.Volume.models_content c.over-store.result.journal.volume)
    (g.V.Volume.models_content c.undo_losers.new.store.journal.volume) s c.undo_losers.new.store) same c.undo_losers.ensures.step in
    rw c.into_volume.ensures.volume (
      c.undo_losers.new.store.journal,
      (
        refl,
        c.into_volume.ensures.stands,
        step.opened,
        stops_with c.requires.found c.args.volume (g.V.Volume.models_content c.undo_losers.new.store.journal.volume)
            (λ models. subst (λ (s : StoreValue _). g.V.Volume.models_content s.journal.volume) same models) c.undo_losers.new.store step,
      ),
    )

pub returns-clause-cause : goal.returns-clause-cause
returns-clause-cause g c =
    let same = begun_is c.args.volume c.args.found c.deref.result.now c.over-journal.result c.over-store.result c.deref.ensures.value c.over-journal.ensures c.over-store.ensures in
    let new = c.undo_losers.new.store in
    let step =
    subst (λ (s : StoreValue _). Stepped (g.V.Volume.models_content c.over-store.result.journal.volume)
    (g.V.Volume.models_content c.undo_losers.new.store.journal.volume) s c.undo_losers.new.store) same c.undo_losers.ensures.step in
    rw (c.into_volume.ensures.volume, c.from.ensures) (explains_undo c.requires.found c.args.volume (g.V.Volume.models_content new.journal.volume)
    (λ models. subst (λ (s : StoreValue _). g.V.Volume.models_content s.journal.volume) same models) new step
    (facts_of g.V.Volume c.args.volume) (facts_of g.V.Volume new.journal.volume) c.in-Err.fault refl (λ models. models)
    (subst (λ (s : StoreValue _). IsStop (g.V.Volume.models_content new.journal.volume) s.frames.size s.journal.history c.in-Err.fault) same c.in-Err.ensures.damaged)
    (subst (λ (s : StoreValue _). IsStoreFaultIn Log (g.V.Volume.faults s.journal.opened) (g.V.Volume.faults new.journal.volume) c.in-Err.fault) same c.in-Err.ensures.cause))
