-- What a restart leaves of a legal log is fit to go on from.
use Rattle.std.proofs.Common.{inl, inr, ℕ, ◌≤◌, [], ◌∷◌, arith}
use Rattle.rm_types.specs.declared.formats.Format.TheVariants.{One}
use Rattle.rm_history.specs.Acts.{History, changes, undoes, enters, commits, ends, marks}
use Rattle.rm_history.specs.Transactions.{HasRecord, greatest_txn}
use Rattle.rm_history.proofs.Restarts.{restarts_are_legal}
use Rattle.rm_recovery.specs.Laws.{SettledIsFit}

-- no id is above the greatest
pub record_below : (history : History) (txn : ℕ) → HasRecord history txn → txn ≤ greatest_txn history
record_below [] txn has = absurd has
record_below (changes c ∷ before) txn (inl same) = omega (arith, same)
record_below (changes c ∷ before) txn (inr had) = omega (arith, record_below before txn had)
record_below (undoes u ∷ before) txn (inl same) = omega (arith, same)
record_below (undoes u ∷ before) txn (inr had) = omega (arith, record_below before txn had)
record_below (enters e ∷ before) txn (inl same) = omega (arith, same)
record_below (enters e ∷ before) txn (inr had) = omega (arith, record_below before txn had)
record_below (commits f ∷ before) txn (inl same) = omega (arith, same)
record_below (commits f ∷ before) txn (inr had) = omega (arith, record_below before txn had)
record_below (ends f ∷ before) txn (inl same) = omega (arith, same)
record_below (ends f ∷ before) txn (inr had) = omega (arith, record_below before txn had)
record_below (marks m ∷ before) txn has = record_below before txn has

pub settled_is_fit : SettledIsFit
settled_is_fit models before now settled modelled legal = record {
  restarted = restarts_are_legal One before now legal (settled.restarted modelled);
  fresh = λ txn has. omega (arith, record_below now txn has, settled.greatest_is);
  room = settled.room modelled legal;
}
