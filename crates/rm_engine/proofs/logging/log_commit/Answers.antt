use Rattle.std.proofs.Common.{refl}
use Rattle.rm_outside.proofs.CallLemmas.{keeps_none, writes_weaker}
use Rattle.rm_engine.proofs.logging.log_commit.Goals as goal

pub returns-in_err-append-clause-writes : goal.returns-in_err-append-clause-writes
returns-in_err-append-clause-writes g c =
    (keeps_none (λ d since. g.met.V.Volume.only_now c.args.volume.now d since), refl)

pub returns-in_err-flush-clause-writes : goal.returns-in_err-flush-clause-writes
returns-in_err-flush-clause-writes g c =
    let stays = c.flush.ensures.steps in (writes_weaker stays.0.writes (λ d e keeps. keeps) (λ d e step. step.others), stays.1)

pub returns-clause-writes : goal.returns-clause-writes
returns-clause-writes g c =
    let stays = c.flush.ensures.steps in (writes_weaker stays.0.writes (λ d e keeps. keeps) (λ d e step. step.others), stays.1)
