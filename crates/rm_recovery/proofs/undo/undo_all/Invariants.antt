use Rattle.std.proofs.Common.{◌≡◌, ◌+◌, length}
use Rattle.rm_recovery.specs.Losers.{AreLosers}
use Rattle.rm_recovery.specs.Undone.{GoesOn, HasSameLosers, Steps}
use Rattle.rm_recovery.proofs.undo.undo_all.Given as goal

abbrev pub invariant-loop-place : goal.invariant-loop-place
invariant-loop-place g l =
    record {
      step : Steps g.V.Volume l.initial.store l.store;
      goes : GoesOn l.initial.store l.store;
      same : HasSameLosers l.initial.store.journal.history l.store.journal.history;
      losers : AreLosers l.store.journal.history l.losers;
      count : l.undone + length l.losers.pending.items ≡ length l.initial.losers.pending.items;
    }

abbrev pub decreases-loop-place : goal.decreases-loop-place
decreases-loop-place g l = length l.losers.pending.items
