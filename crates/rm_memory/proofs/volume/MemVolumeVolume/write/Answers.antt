use Rattle.std.proofs.Common.{sym, ◌∙◌}
use Rattle.rm_memory.specs.Mediums.{events, base_image}
use Rattle.rm_memory.specs.Volumes.{events_of, base_of}
use Rattle.rm_memory.proofs.StepLaws.{Written, written, shown}
use Rattle.rm_memory.proofs.volume.MemVolumeVolume.write.Goals as goal
use Rattle.rm_memory.proofs.volume.MemVolumeVolume.write.Goals.{After-write}

all : (c : After-write) → Written c.args.area c.args.at c.args.from.now (base_of c.args.self.now) (events_of c.args.self.now) (base_image c.write.new.self) (events c.write.new.self)
all c = written c.args.area c.args.at c.args.from.now _ (base_of c.args.self.now) (base_image c.write.new.self) (events_of c.args.self.now) (events c.write.new.self) c.write.result c.write.ensures.base c.write.ensures.ok c.write.ensures.err

pub returns-then-due-clause-content : goal.returns-then-due-clause-content
returns-then-due-clause-content c = (all (goal.at.returns-then-due-clause-content c).After-write).content

pub returns-then-due-clause-crash : goal.returns-then-due-clause-crash
returns-then-due-clause-crash c = (all (goal.at.returns-then-due-clause-crash c).After-write).crash

pub returns-then-due-clause-time : goal.returns-then-due-clause-time
returns-then-due-clause-time c = (all (goal.at.returns-then-due-clause-time c).After-write).time

pub returns-clause-written : goal.returns-clause-written
returns-clause-written c = shown c.args.area c.args.at c.args.from.now c.write_call-due.result (base_of c.args.self.now) (base_image c.write.new.self) (events_of c.args.self.now) (events c.write.new.self) c.write.result c.write.ensures.base c.write.ensures.ok c.if-due.false (sym c.is_ok-noted.ensures.value ∙ c.if-not-noted.false)

pub returns-clause-content : goal.returns-clause-content
returns-clause-content c = (all (goal.at.returns-clause-content c).After-write).content

pub returns-clause-crash : goal.returns-clause-crash
returns-clause-crash c = (all (goal.at.returns-clause-crash c).After-write).crash

pub returns-clause-time : goal.returns-clause-time
returns-clause-time c = (all (goal.at.returns-clause-time c).After-write).time
