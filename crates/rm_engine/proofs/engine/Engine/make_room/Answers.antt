use Rattle.rm_outside.specs.Moments.{started}
use Rattle.rm_engine.proofs.Flushes.{holds_now}
use Rattle.rm_outside.proofs.CallLemmas.{keeps_none}
use Rattle.std.proofs.Common.{refl}
use Rattle.rm_engine.proofs.engine.Engine.make_room.Goals as goal

pub returns-in-Begin-clause-any_moment : goal.returns-in-Begin-clause-any_moment
returns-in-Begin-clause-any_moment g c pages count rows at =
    started _ _ _ (λ d since. holds_now pages count rows _ _ _ _ _ at d (g.met.V.Volume.only_now c.args.volume.now d since))

pub returns-in-Read-clause-any_moment : goal.returns-in-Read-clause-any_moment
returns-in-Read-clause-any_moment g c pages count rows at =
    started _ _ _ (λ d since. holds_now pages count rows _ _ _ _ _ at d (g.met.V.Volume.only_now c.args.volume.now d since))

pub returns-in-Insert-clause-log : goal.returns-in-Insert-clause-log
returns-in-Insert-clause-log g c = rw c.in-Insert.is (rw c.as_slice.ensures.value at c.room_to_insert.ensures.log)

pub returns-in-Begin-clause-writes : goal.returns-in-Begin-clause-writes
returns-in-Begin-clause-writes g c =
    (keeps_none (λ d since. g.met.V.Volume.only_now c.args.volume.now d since), refl)

pub returns-in-Read-clause-writes : goal.returns-in-Read-clause-writes
returns-in-Read-clause-writes g c =
    (keeps_none (λ d since. g.met.V.Volume.only_now c.args.volume.now d since), refl)
