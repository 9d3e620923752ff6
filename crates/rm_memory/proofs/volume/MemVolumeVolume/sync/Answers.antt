use Rattle.std.proofs.Common.{sym, ◌∙◌}
use Rattle.rm_memory.specs.Mediums.{events, base_image}
use Rattle.rm_memory.specs.Volumes.{events_of, base_of}
use Rattle.rm_memory.proofs.StepLaws.{Durable, synced}
use Rattle.rm_memory.proofs.volume.MemVolumeVolume.sync.Goals as goal
use Rattle.rm_memory.proofs.volume.MemVolumeVolume.sync.Goals.{Else-is_err}

all : (c : Else-is_err) → Durable c.args.area (base_of c.args.self.now) (events_of c.args.self.now) (base_image c.sync.new.self) (events c.sync.new.self)
all c = synced c.args.area (base_of c.args.self.now) (base_image c.sync.new.self) (events_of c.args.self.now) (events c.sync.new.self) c.sync.result c.sync.ensures.base c.sync.ensures.ok (sym c.is_err.ensures.value ∙ c.if-is_err.false)

pub returns-clause-durable : goal.returns-clause-durable
returns-clause-durable c = (all (goal.at.returns-clause-durable c).Else-is_err).durable

pub returns-clause-content : goal.returns-clause-content
returns-clause-content c = (all (goal.at.returns-clause-content c).Else-is_err).content

pub returns-clause-crash : goal.returns-clause-crash
returns-clause-crash c = (all (goal.at.returns-clause-crash c).Else-is_err).crash

pub returns-clause-time : goal.returns-clause-time
returns-clause-time c = (all (goal.at.returns-clause-time c).Else-is_err).time
