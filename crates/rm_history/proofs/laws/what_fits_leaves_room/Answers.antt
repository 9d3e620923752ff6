use Rattle.rm_history.proofs.RoomLaws.{fitting_is_room}
use Rattle.rm_history.proofs.laws.what_fits_leaves_room.Goals as goal

pub returns : goal.returns
returns c = fitting_is_room
