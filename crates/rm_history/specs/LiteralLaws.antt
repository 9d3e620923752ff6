-- The two ways of saying what a log means are one.
use Rattle.std.specs.Prelude.{◌≡◌, ℕ, List, reverse}
use Rattle.rm_types.specs.declared.numbers.Rid.{Rid}
use Rattle.rm_history.specs.Acts.{Change, History}
use Rattle.rm_history.specs.Pending.{pending_of}
use Rattle.rm_history.specs.Transactions.{IsFinished}
use Rattle.rm_history.specs.Rows.{rows_of_log}
use Rattle.rm_history.specs.Needs.{need_for}
use Rattle.rm_history.specs.Rules.{IsInOrder}
use Rattle.rm_history.specs.Literal.{net, rows_of_acts, IsNeed}

-- the net changes of an unfinished transaction are those that are pending
abbrev pub NetIsPending : Type 0
NetIsPending = (history : History) → IsInOrder history → (txn : ℕ) → (IsFinished history txn → ⊥) → reverse (net (reverse history) txn) ≡ pending_of history txn

-- the rows that the winners' net changes leave are the committed rows
abbrev pub RowsAreOfWinners : Type 0
RowsAreOfWinners = (history : History) → IsInOrder history → (rid : Rid) → rows_of_acts (reverse history) rid ≡ rows_of_log history rid

-- the need of some changes is the most that any of the last of them gave up more than they took
abbrev pub NeedIsTheMost : Type 0
NeedIsTheMost = (changed : List Change) → IsNeed (reverse changed) (need_for changed)
