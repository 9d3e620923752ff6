use Rattle.std.proofs.Common.{◌≡◌, [], length}
use Rattle.rm_history.specs.Losers.{losers_of}
use Rattle.rm_history.specs.Pending.{all_pending}
use Rattle.rm_history.specs.Transactions.{greatest_txn}
use Rattle.rm_recovery.specs.Losers.{AreKnown}
use Rattle.rm_recovery.specs.Undone.{GoesOn, Steps}
use Rattle.rm_recovery.proofs.undo.end_all.Given as goal

abbrev pub invariant-loop-txn : goal.invariant-loop-txn
invariant-loop-txn g l =
    record {
      step : Steps g.V.Volume l.initial.store l.store;
      goes : GoesOn l.initial.store l.store;
      none : all_pending l.store.journal.history ≡ [];
      greatest : greatest_txn l.store.journal.history ≡ greatest_txn l.initial.store.journal.history;
      losers : l.losers.unfinished.keys ≡ losers_of l.store.journal.history;
      known : AreKnown l.store.journal.history;
    }

abbrev pub decreases-loop-txn : goal.decreases-loop-txn
decreases-loop-txn g l = length l.losers.unfinished.keys
