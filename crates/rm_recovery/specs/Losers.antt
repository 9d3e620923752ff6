-- What a restart keeps of transactions: which are unfinished, and what of them is pending.
use Rattle.std.specs.Prelude.{◌≡◌, ℕ, ◌<◌, ◌≤◌, List, length, map, slice_index_or}
use Rattle.rm_types.specs.declared.places.Place.{Place}
use Rattle.rm_history.specs.Acts.{Change, History}
use Rattle.rm_history.specs.Pending.{all_pending}
use Rattle.rm_history.specs.Losers.{losers_of, IsAmong}
use Rattle.rm_history.specs.Transactions.{greatest_txn}
use Rattle.rm_recovery.specs.declared.losers.Losers.{Losers}

-- the transaction of a change, and the change's LSN
abbrev pub place_of : Change → Place
place_of c = record { number = c.txn; at = c.lsn }

-- the first of these up to that number are not of the transaction
abbrev pub HasNoneBefore : ℕ → List Place → ℕ → Type 0
HasNoneBefore txn places number = (k : ℕ) (other : Place) → k < number → k < length places → (slice_index_or places k other).number ≡ txn → ⊥

-- the first that is stands there
pub record IsFirstOf (txn : ℕ) (places : List Place) (at : ℕ) : Type 0 where
  pub inside : at < length places
  pub none : HasNoneBefore txn places at
  pub here : (other : Place) → (slice_index_or places at other).number ≡ txn

-- each transaction that is not finished has an id from 1 on, and not above the greatest
abbrev pub AreKnown : History → Type 0
AreKnown history = (txn : ℕ) → IsAmong (losers_of history) txn → (0 < txn) × (txn ≤ greatest_txn history)

-- They are those of the history: all that is pending, the newest first, the unfinished transactions in order of their ids, and the
-- greatest id.
pub record AreLosers (history : History) (losers : Losers) : Type 0 where
  pub pending_are : losers.pending.items ≡ map place_of (all_pending history)
  pub losers_are : losers.unfinished.keys ≡ losers_of history
  pub greatest_is : losers.greatest ≡ greatest_txn history
  pub known : AreKnown history
