-- How the steps of an undo go on from one to the next.
use Rattle.std.proofs.Common.{◌≡◌, ◌⊎◌, inl, inr, ℕ, List, [], ◌∷◌, map, Result, Ok, Err, IfErr, IsErrAnd, refl, sym, ap, subst, ◌∙◌, arith}
use Rattle.rm_types.specs.declared.faults.Fault.TheVariants as fault
use Rattle.rm_types.specs.declared.faults.StoreFault.{StoreFault}
use Rattle.rm_types.specs.declared.faults.StoreFault.TheVariants as store
use Rattle.rm_types.specs.declared.formats.Format.TheVariants.{One}
use Rattle.rm_history.specs.Acts.{Change, History}
use Rattle.rm_types.specs.declared.places.Place.{Place}
use Rattle.rm_history.specs.Losers.{losers_of, IsAmong}
use Rattle.rm_history.specs.Pending.{all_pending}
use Rattle.rm_pool.specs.Stores.{StoreValue, IsCurrent, made_durable}
use Rattle.rm_recovery.specs.declared.losers.Losers.{Losers}
use Rattle.rm_recovery.specs.Losers.{AreKnown, AreLosers, place_of}
use Rattle.rm_recovery.specs.Restarting.{IsRestarting, IsUndoDamageAt}
use Rattle.rm_recovery.specs.Undone.{IsNewest, HasSameLosers, HasSamePending, HasOneLess, LosesOne, Stepped, GoesOn, IsStop}

module _ {V : Type 0} where
  pub stays : (before after : Type 0) (old new : StoreValue V) → (after → before) → new.journal.opened ≡ old.journal.opened
      → new.journal.first ≡ old.journal.first → new.frames.size ≡ old.frames.size → new.journal.history ≡ old.journal.history → Stepped before after old new
  stays before after old new modelled opened first size history = record {
    modelled = modelled;
    opened = opened;
    first = first;
    size = size;
    restarts = λ models begun restarting. subst (IsRestarting One _ begun) (sym history) restarting;
  }

  pub stepped_on : {before between after : Type 0} {old mid new : StoreValue V} → Stepped before between old mid → Stepped between after mid new
      → Stepped before after old new
  stepped_on {old = old} {mid = mid} {new = new} one two = record {
    modelled = λ models. one.modelled (two.modelled models);
    opened = two.opened ∙ one.opened;
    first = two.first ∙ one.first;
    size = two.size ∙ one.size;
    restarts = λ models begun restarting.
        subst (λ (n : ℕ). IsRestarting One n begun mid.journal.history → IsRestarting One n begun new.journal.history) one.size
        (two.restarts models begun) (one.restarts (two.modelled models) begun restarting);
  }

  pub goes_on : {old mid new : StoreValue V} → GoesOn old mid → GoesOn mid new → GoesOn old new
  goes_on one two = record { known = two.known ∙ one.known; limit = two.limit ∙ one.limit }

  -- what stops the second of two steps stops both
  pub stops_later : {before between : Type 0} (after : Type 0) {old mid : StoreValue V} → Stepped before between old mid → (after → between)
      → (stored : StoreFault) → IsStop after mid.frames.size mid.journal.history stored → IsStop after old.frames.size old.journal.history stored
  stops_later after {old = old} {mid = mid} one modelled (store.Fault (fault.Damaged area at)) is = (
    is.0,
    λ models begun restarting.
        subst (λ (n : ℕ). IsRestarting One n begun mid.journal.history → IsUndoDamageAt One n begun at) one.size
        (is.1 models begun) (one.restarts (modelled models) begun restarting),
  )
  stops_later after one modelled (store.Fault (fault.Volume area)) is = tt
  stops_later after one modelled store.NoMemory is = tt

  pub stops_after : {T : Type 0} {before between : Type 0} (after : Type 0) {old mid : StoreValue V} → Stepped before between old mid → (after → between)
      → (result : Result T StoreFault) → IfErr result (IsStop after mid.frames.size mid.journal.history) → IfErr result (IsStop after old.frames.size old.journal.history)
  stops_after after one modelled (Ok done) is = tt
  stops_after after one modelled (Err stored) is = stops_later after one modelled stored is

  -- a store after a flush has all that was logged
  pub current_on : (old new : StoreValue V) {volume : V} → IsCurrent old → (new ≡ old) ⊎ (new ≡ made_durable old volume) → IsCurrent new
  current_on old new current (inl same) = subst IsCurrent (sym same) current
  current_on old new current (inr flushed) = subst IsCurrent (sym flushed) current

-- what holds of a fault holds of it passed on
pub passed_on : {T : Type 0} (P : StoreFault → Type 0) (result : Result T StoreFault) (stored : StoreFault) → IsErrAnd result (λ given. given ≡ stored) → P stored
    → IfErr result P
passed_on P (Ok done) stored given is = tt
passed_on P (Err given) stored same is = subst P (sym same) is

-- ---- what is pending

pub same_losers_on : {old mid new : History} → HasSameLosers old mid → HasSameLosers mid new → HasSameLosers old new
same_losers_on one two = record { losers = two.losers ∙ one.losers; greatest = two.greatest ∙ one.greatest }

pub one_less_after : (old mid new : History) → HasSamePending old mid → HasOneLess mid new → HasOneLess old new
one_less_after old mid new same less = (same_losers_on same.0 less.0, λ last rest is. less.1 last rest (same.1 ∙ is))

pub one_less_of : (old mid new : History) → mid ≡ old → HasOneLess mid new → HasOneLess old new
one_less_of old mid new same less = subst (λ (h : History). HasOneLess h new) same less

pub same_of : (old mid new : History) → mid ≡ old → HasSamePending mid new → HasSamePending old new
same_of old mid new same pending = subst (λ (h : History). HasSamePending h new) same pending

pub loses_of : (old mid new : History) → mid ≡ old → LosesOne mid new → LosesOne old new
loses_of old mid new same loses = subst (λ (h : History). LosesOne h new) same loses

-- ---- the losers

split : (all : List Change) (place : Place) (rest : List Place) → map place_of all ≡ place ∷ rest
    → (c : Change) × (cs : List Change) × (all ≡ c ∷ cs) × (place ≡ place_of c) × (rest ≡ map place_of cs)
split [] place rest is = absurd cc
split (c ∷ cs) place rest is = (c, cs, refl, cc, cc)

-- the first is the newest of all that is pending
pub newest_first : {history : History} {losers : Losers} (place : Place) (rest : List Place) → AreLosers history losers → losers.pending.items ≡ place ∷ rest
    → IsNewest history place
newest_first {history} place rest are is =
    let found = split (all_pending history) place rest (sym are.pending_are ∙ is) in
    record { last = found.0; rest = found.1; pending = found.2; is = found.3; known = are.known }

-- ids stay known
known_same : (old new : History) → AreKnown old → HasSameLosers old new → AreKnown new
known_same old new known same = λ txn among.
    let was = known txn (subst (λ (l : List ℕ). IsAmong l txn) same.losers among) in (was.0, omega (arith, was.1, same.greatest))

-- without it they are those of the history in which it is undone
pub losers_less : {old : History} {before : Losers} (new : History) (after : Losers) (place : Place) (rest : List Place) → AreLosers old before → HasOneLess old new
    → before.pending.items ≡ place ∷ rest → after.pending.items ≡ rest → after.unfinished.keys ≡ before.unfinished.keys → after.greatest ≡ before.greatest
    → AreLosers new after
losers_less {old} new after place rest are less is kept keys greatest =
    let found = split (all_pending old) place rest (sym are.pending_are ∙ is) in
    record {
      pending_are = kept ∙ found.4 ∙ ap (map place_of) (sym (less.1 found.0 found.1 found.2));
      losers_are = keys ∙ are.losers_are ∙ sym less.0.losers;
      greatest_is = greatest ∙ are.greatest_is ∙ sym less.0.greatest;
      known = known_same old new are.known less.0;
    }

pub known_less : (old new : History) (first : ℕ) (rest : List ℕ) → AreKnown old → losers_of old ≡ first ∷ rest → LosesOne old new → AreKnown new
known_less old new first rest known are loses = λ txn among.
    let had : IsAmong rest txn = subst (λ (l : List ℕ). IsAmong l txn) (loses.losers first rest are) among in
    let was = known txn (subst (λ (l : List ℕ). IsAmong l txn) (sym are) (inr had)) in (was.0, omega (arith, was.1, loses.greatest))
