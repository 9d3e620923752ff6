use Rattle.std.proofs.Common.{sym, subst, ◌∙◌}
use Rattle.rm_outside.specs.Images.{Image}
use Rattle.rm_memory.specs.Crashes.{none}
use Rattle.rm_memory.specs.Volumes.{events_of, base_of, may_leave_of}
use Rattle.rm_memory.proofs.CrashLaws.{left_may_stay}
use Rattle.rm_memory.proofs.StepLaws.{images_fresh}
use Rattle.rm_memory.proofs.volume.MemVolume.crash.Goals as goal

pub returns-clause-image : goal.returns-clause-image
returns-clause-image c =
    let self = c.args.self.now in
    let is = c.over.ensures.content ∙ c.in_ok-medium.ensures.base ∙ c.in_ok-image.ensures in
    subst (λ (image : Image). may_leave_of self image) (sym is) (left_may_stay c.args.outcome (base_of self) (events_of self) none)

pub returns-clause-synced : goal.returns-clause-synced
returns-clause-synced c = images_fresh (base_of c.over.result) (events_of c.over.result) c.over.ensures.fresh.events
