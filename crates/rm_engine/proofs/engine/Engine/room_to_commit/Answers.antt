use Rattle.rm_outside.specs.Moments.{started}
use Rattle.rm_engine.proofs.Flushes.{holds_now}
use Rattle.rm_outside.proofs.CallLemmas.{keeps_none}
use Rattle.std.proofs.Common.{refl}
use Rattle.rm_engine.proofs.engine.Engine.room_to_commit.Goals as goal

pub returns-then-not-is_active-clause-any_moment : goal.returns-then-not-is_active-clause-any_moment
returns-then-not-is_active-clause-any_moment g c pages count rows at =
    started _ _ _ (λ d since. holds_now pages count rows _ _ _ _ _ at d (g.met.V.Volume.only_now c.args.volume.now d since))

pub returns-then-not-is_active-clause-writes : goal.returns-then-not-is_active-clause-writes
returns-then-not-is_active-clause-writes g c =
    (keeps_none (λ d since. g.met.V.Volume.only_now c.args.volume.now d since), refl)
