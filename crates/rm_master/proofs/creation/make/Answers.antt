use Rattle.rm_master.proofs.Making.{rest_stays, made_last, ready_images, unmade_images}
use Rattle.rm_master.proofs.creation.make.Goals as goal

pub returns-clause-writes : goal.returns-clause-writes
returns-clause-writes g c = (rest_stays c.clear.ensures.writes.0 c.write_first_slot.ensures.writes.0 c.write_made.ensures.writes.0, cc)

pub returns-clause-any_moment : goal.returns-clause-any_moment
returns-clause-any_moment g c =
    made_last c.clear.ensures.writes.0 c.write_first_slot.ensures.writes.0 c.write_made.ensures.writes.0 _
    (unmade_images (g.V.Volume.content c.args.volume.now) (g.V.Volume.may_leave c.args.volume.now) c.requires.synced (g.met.V.Volume.only_modelled c.args.volume.now) c.requires.unmade)
    (ready_images _ c.write_first_slot.ensures.writes.0 c.in_ok-clear.ensures.cleared c.in_ok-write_first_slot.ensures.slot c.in_ok-write_first_slot.ensures.synced
    (g.met.V.Volume.only_modelled c.write_first_slot.new.volume))
