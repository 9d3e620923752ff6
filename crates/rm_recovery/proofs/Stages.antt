-- What the records of an undo do to a restart, and where it stops.
use Rattle.std.proofs.Common.{◌≡◌, inl, inr, ℕ, ◌<◌, List, ◌∷◌, Option, Some, None, refl, sym, ap, subst, ◌∙◌}
use Rattle.rm_types.specs.declared.faults.Fault.TheVariants as fault
use Rattle.rm_types.specs.declared.faults.StoreFault.{StoreFault}
use Rattle.rm_types.specs.declared.faults.StoreFault.TheVariants as store
use Rattle.rm_types.specs.declared.formats.Format.TheVariants.{One}
use Rattle.rm_types.specs.declared.numbers.Lsn.{Lsn}
use Rattle.rm_types.specs.declared.places.Place.{Place}
use Rattle.rm_record.specs.declared.records.LogRecord.{LogRecord}
use Rattle.rm_record.specs.declared.records.LogRecord.TheVariants.{End}
use Rattle.rm_history.specs.Acts.{Change, History, enters}
use Rattle.rm_history.specs.Contents.{entry_of}
use Rattle.rm_history.specs.Losers.{IsAmong}
use Rattle.rm_history.specs.Pending.{all_pending}
use Rattle.rm_history.specs.Sizes.{IsNext}
use Rattle.rm_history.specs.UndoBytes.{compensate_record, inventory_record}
use Rattle.rm_history.specs.Undoing.{category_after, entry_for, undo_for}
use Rattle.rm_pool.specs.Frames.{CannotTake, IsForFixed}
use Rattle.rm_pool.specs.Stores.{StoreValue, CannotWrite, next_of, with_page, written}
use Rattle.rm_undo.specs.Changes.{HasChangeAt, IsDamageAt, OfChange}
use Rattle.rm_undo.specs.Undoing.{CannotSettle, CannotUndo, Compensated, CompensatedFor, Settled, SettlesFor, with_entry}
use Rattle.rm_undo.specs.declared.undoing.Undone.{Undone}
use Rattle.rm_recovery.specs.Restarting.{IsRestarting, CannotUndoAt, HasNoPlace, frames_of}
use Rattle.rm_recovery.specs.Undone.{IsNewest, IsRightForNewest, HasSamePending, HasOneLess, IsNextLoser, LosesOne, Stepped, GoesOn, StopsUndo, IsStop}
use Rattle.rm_recovery.proofs.Steps.{entered_losers, undone_losers, last_is_in, last_loses, goes_entered, goes_over, goes_taken, ended_losers, entered_right}

-- the newest pending change, as the undo of one change asks for it
pub has_newest : {history : History} {place : Place} (newest : IsNewest history place) → HasChangeAt history place.number place.at newest.last
has_newest newest = record {
  is_in = last_is_in _ newest.last newest.rest newest.pending;
  lsn_is = ap (λ (p : Place). p.at) (sym newest.is);
  txn_is = ap (λ (p : Place). p.number) (sym newest.is);
}

-- its transaction has an id
pub number_some : {history : History} {place : Place} (newest : IsNewest history place) → 0 < place.number
number_some {history} newest =
    subst (λ (p : Place). 0 < p.number) (sym newest.is) (newest.known newest.last.txn (last_loses history newest.last newest.rest newest.known newest.pending)).0

-- it is one
right_for : (history : History) (last : Change) (rest : List Change) → all_pending history ≡ last ∷ rest
    → entry_of history last.rid.page ≡ category_after One history last → IsRightForNewest One history
right_for history last rest pending right = λ other others are.
    let both : last ∷ rest ≡ other ∷ others = sym pending ∙ are in
    let same : last ≡ other = cc in
    subst (λ (c : Change). entry_of history c.rid.page ≡ category_after One history c) same right

same_newest : (history other : History) (place : Place) → other ≡ history → IsNewest history place → IsNewest other place
same_newest history other place same newest = subst (λ (h : History). IsNewest h place) (sym same) newest

-- nothing was logged
pub nothing_done : (old new : History) → new ≡ old → HasSamePending old new
nothing_done old new same = subst (λ (h : History). HasSamePending old h) (sym same) (record { losers = refl; greatest = refl }, refl)

-- ---- the entry

module _ {V : Type 0} (old new : StoreValue V) (place : Place) (newest : IsNewest old.journal.history place) where
  -- what the records of this transaction do
  entered_by_it : (lsn page category : ℕ) → HasSamePending old.journal.history (enters (record { lsn = lsn; txn = place.number; page = page; category = category }) ∷ old.journal.history)
  entered_by_it lsn page category =
      entered_losers old.journal.history newest.last newest.rest newest.known newest.pending (record { lsn = lsn; txn = place.number; page = page; category = category }) (ap (λ (p : Place). p.number) newest.is)

  pub settled_pending : (entered : Option Lsn) → Settled (record { 0 = place.number }) old entered new → HasSamePending old.journal.history new.journal.history
  settled_pending None (page, is) = nothing_done old.journal.history new.journal.history (ap (λ (s : StoreValue V). s.journal.history) is)
  settled_pending (Some lsn) (page, category, at, next, is) =
      subst (λ (h : History). HasSamePending old.journal.history h) (sym (ap (λ (s : StoreValue V). s.journal.history) is)) (entered_by_it (next_of old) page category)

  pub settled_goes : (entered : Option Lsn) → Settled (record { 0 = place.number }) old entered new → GoesOn old new
  settled_goes None (page, is) = record { known = ap (λ (s : StoreValue V). s.journal.is_known) is; limit = ap (λ (s : StoreValue V). s.journal.log.limit) is }
  settled_goes (Some lsn) (page, category, at, next, is) =
      record { known = ap (λ (s : StoreValue V). s.journal.is_known) is; limit = ap (λ (s : StoreValue V). s.journal.log.limit) is }

  settled_restarts : (entered : Option Lsn) → Settled (record { 0 = place.number }) old entered new
      → SettlesFor One newest.last old.journal.history entered new.journal.history
      → (pages : ℕ) (first : History) → IsRestarting One pages first old.journal.history → IsRestarting One pages first new.journal.history
  settled_restarts None settled is pages first restarting = subst (IsRestarting One pages first) (sym is.1) restarting
  settled_restarts (Some lsn) (page, category, at, next, same) is pages first restarting =
      subst (IsRestarting One pages first) (sym is.1) (goes_entered restarting newest.last newest.rest newest.known newest.pending lsn.0 next is.0)

  pub settled_step : (before after : Type 0) (entered : Option Lsn) → Settled (record { 0 = place.number }) old entered new → (after → before)
      → OfChange after old.journal.history (record { 0 = place.number }) (record { 0 = place.at })
      (λ c. SettlesFor One c old.journal.history entered new.journal.history) → Stepped before after old new
  settled_step before after None (page, is) modelled settles = record {
    modelled = modelled;
    opened = ap (λ (s : StoreValue V). s.journal.opened) is;
    first = ap (λ (s : StoreValue V). s.journal.first) is;
    size = ap (λ (s : StoreValue V). s.frames.size) is;
    restarts = λ models first restarting. settled_restarts None (page, is) (settles models newest.last (has_newest newest)) old.frames.size first restarting;
  }
  settled_step before after (Some lsn) (page, category, at, next, is) modelled settles = record {
    modelled = modelled;
    opened = ap (λ (s : StoreValue V). s.journal.opened) is;
    first = ap (λ (s : StoreValue V). s.journal.first) is;
    size = ap (λ (s : StoreValue V). s.frames.size) is;
    restarts = λ models first restarting.
        settled_restarts (Some lsn) (page, category, at, next, is) (settles models newest.last (has_newest newest)) old.frames.size first restarting;
  }

  pub settled_right : (entered : Option Lsn) → Settled (record { 0 = place.number }) old entered new
      → SettlesFor One newest.last old.journal.history entered new.journal.history → IsRightForNewest One new.journal.history
  settled_right None settled is = subst (IsRightForNewest One) (sym is.1) (right_for old.journal.history newest.last newest.rest newest.pending is.0)
  settled_right (Some lsn) (page, category, at, next, same) is =
      subst (IsRightForNewest One) (sym is.1) (right_for (enters (entry_for One lsn.0 old.journal.history newest.last) ∷ old.journal.history) newest.last newest.rest newest.pending (entered_right One old.journal.history newest.last lsn.0))

  -- ---- the undo

  module _ {undone : Undone} (is : Compensated (record { 0 = place.number }) (record { 0 = place.at }) old undone new) where
    pub compensated_goes : GoesOn old new
    compensated_goes = record { known = ap (λ (s : StoreValue V). s.journal.is_known) is.new_is; limit = ap (λ (s : StoreValue V). s.journal.log.limit) is.new_is }

    pub compensated_pending : HasOneLess old.journal.history new.journal.history
    compensated_pending =
        subst (λ (h : History). HasOneLess old.journal.history h) (sym (ap (λ (s : StoreValue V). s.journal.history) is.new_is))
        (undone_losers old.journal.history newest.last newest.rest newest.known newest.pending _ (ap (λ (p : Place). p.number) newest.is))

    pub compensated_step : (before after : Type 0) → (after → before) → (before → IsRightForNewest One old.journal.history)
        → OfChange after old.journal.history (record { 0 = place.number }) (record { 0 = place.at })
        (λ c. CompensatedFor c (next_of old) old.journal.history undone new.journal.history) → Stepped before after old new
    compensated_step before after modelled right done = record {
      modelled = modelled;
      opened = ap (λ (s : StoreValue V). s.journal.opened) is.new_is;
      first = ap (λ (s : StoreValue V). s.journal.first) is.new_is;
      size = ap (λ (s : StoreValue V). s.frames.size) is.new_is;
      restarts = λ models first restarting.
          let made = done models newest.last (has_newest newest) in
          let next : IsNext old.journal.history (next_of old) = subst (IsNext old.journal.history) is.lsn is.above in
          subst (IsRestarting One old.frames.size first) (sym made.new_is)
          (goes_taken restarting newest.last newest.rest newest.known newest.pending (next_of old) next (right (modelled models) newest.last newest.rest newest.pending));
    }

-- ---- a transaction ends

module _ {V : Type 0} (old new : StoreValue V) (txn : ℕ) (next : IsNextLoser old.journal.history txn) where
  pub ends_some : 0 < txn
  ends_some = (next.known txn (subst (λ (l : List ℕ). IsAmong l txn) (sym next.losers) (inl refl))).0

  module _ (is : new ≡ written old (End (record { 0 = txn }))) where
    pub ended_loses : LosesOne old.journal.history new.journal.history
    ended_loses =
        subst (λ (h : History). LosesOne old.journal.history h) (sym (ap (λ (s : StoreValue V). s.journal.history) is))
        (ended_losers old.journal.history next.rest (record { lsn = next_of old; txn = txn }) next.known next.losers next.none)

    pub ended_step : (before after : Type 0) → (after → before) → IsNext old.journal.history (next_of old) → Stepped before after old new
    ended_step before after modelled at = record {
      modelled = modelled;
      opened = ap (λ (s : StoreValue V). s.journal.opened) is;
      first = ap (λ (s : StoreValue V). s.journal.first) is;
      size = ap (λ (s : StoreValue V). s.frames.size) is;
      restarts = λ models first restarting.
          subst (IsRestarting One old.frames.size first) (sym (ap (λ (s : StoreValue V). s.journal.history) is))
          (goes_over restarting txn next.rest next.known next.losers next.none (next_of old) at);
    }

-- ---- where it stops

-- a record that cannot be written, though what it names is fixed, has no place
no_place : {V : Type 0} (at : StoreValue V) (history : History) (what : LogRecord) → at.frames.applied ≡ history → IsNext history (next_of at)
    → IsForFixed at.frames what → CannotWrite at what → HasNoPlace at.frames.size history what
no_place at history what applied next fixed (inl (inl other)) = absurd (other fixed)
no_place at history what applied next fixed (inl (inr cannot)) = inl (subst (λ (h : History). CannotTake (frames_of at.frames.size h) what) applied cannot)
no_place at history what applied next fixed (inr full) = inr (next_of at, next, full)

module _ {V : Type 0} (old : StoreValue V) (place : Place) (newest : IsNewest old.journal.history place)
    (applied : old.frames.applied ≡ old.journal.history) (next : IsNext old.journal.history (next_of old)) where
  cannot_settle : CannotSettle One (record { 0 = place.number }) (record { 0 = place.at }) old newest.last → CannotUndoAt One old.frames.size old.journal.history place.at
  cannot_settle =
      subst (λ (p : Place). CannotSettle One (record { 0 = p.number }) (record { 0 = p.at }) old newest.last → CannotUndoAt One old.frames.size old.journal.history p.at) (sym newest.is)
      (λ cannot. record {
        last = newest.last;
        rest = newest.rest;
        pending = newest.pending;
        place = refl;
        why = elim cannot [
          | inl astray ↦ inl astray
          | inr write ↦ inr (inl (no_place (with_entry old newest.last.rid.page) old.journal.history (inventory_record (entry_for One 0 old.journal.history newest.last)) applied next (record { page = tt; block = refl }) write))
        ];
      })

  cannot_undo : IsRightForNewest One old.journal.history → CannotUndo (record { 0 = place.number }) (record { 0 = place.at }) old newest.last → CannotUndoAt One old.frames.size old.journal.history place.at
  cannot_undo right =
      subst (λ (p : Place). CannotUndo (record { 0 = p.number }) (record { 0 = p.at }) old newest.last → CannotUndoAt One old.frames.size old.journal.history p.at) (sym newest.is)
      (λ cannot. record {
        last = newest.last;
        rest = newest.rest;
        pending = newest.pending;
        place = refl;
        why = elim cannot [
          | inl astray ↦ inl astray
          | inr write ↦ inr (inr (right newest.last newest.rest newest.pending, no_place (with_page old newest.last.rid.page) old.journal.history (compensate_record (undo_for 0 newest.last)) applied next (record { page = refl; block = tt }) write))
        ];
      })

  stop_at : (after : Type 0) → (after → CannotUndoAt One old.frames.size old.journal.history place.at) → StopsUndo after old.frames.size old.journal.history place.at
  stop_at after cannot = λ models first restarting. record { now = old.journal.history; restarting = restarting; stops = inl (cannot models) }

  pub settle_stops : (after : Type 0) (stored : StoreFault) → IsDamageAt (record { 0 = place.at })
      (OfChange after old.journal.history (record { 0 = place.number }) (record { 0 = place.at }) (CannotSettle One (record { 0 = place.number }) (record { 0 = place.at }) old)) stored
      → IsStop after old.frames.size old.journal.history stored
  settle_stops after (store.Fault (fault.Damaged area at)) is =
      (is.0, subst (StopsUndo after old.frames.size old.journal.history) (sym is.1) (stop_at after (λ models. cannot_settle (is.2 models newest.last (has_newest newest)))))
  settle_stops after (store.Fault (fault.Volume area)) is = tt
  settle_stops after store.NoMemory is = tt

  pub undo_stops : (before after : Type 0) (stored : StoreFault) → (after → before) → (before → IsRightForNewest One old.journal.history)
      → IsDamageAt (record { 0 = place.at })
      (OfChange after old.journal.history (record { 0 = place.number }) (record { 0 = place.at }) (CannotUndo (record { 0 = place.number }) (record { 0 = place.at }) old)) stored
      → IsStop after old.frames.size old.journal.history stored
  undo_stops before after (store.Fault (fault.Damaged area at)) modelled right is = (
    is.0,
    subst (StopsUndo after old.frames.size old.journal.history) (sym is.1)
        (stop_at after (λ models. cannot_undo (right (modelled models)) (is.2 models newest.last (has_newest newest)))),
  )
  undo_stops before after (store.Fault (fault.Volume area)) modelled right is = tt
  undo_stops before after store.NoMemory modelled right is = tt
