use Rattle.std.proofs.Common.{◌+◌, take}
use Rattle.rm_history.specs.Acts.{acts_of, newest_lsn}
use Rattle.rm_restart.specs.Replaying.{HaveLsnsBelow, Replays}
use Rattle.rm_restart.proofs.replay.replayed.Given as goal

abbrev pub invariant-loop-logged : goal.invariant-loop-logged
invariant-loop-logged l =
    record {
      replays : Replays l.pages (acts_of (take l.logged-index l.records)) l.replay;
      below : HaveLsnsBelow (newest_lsn (acts_of (take l.logged-index l.records)) + 1) l.replay.pages.items;
    }
