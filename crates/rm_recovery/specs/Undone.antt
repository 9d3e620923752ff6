-- One step of a restart's undo.
use Rattle.std.specs.Prelude.{◌≡◌, ℕ, List, [], ◌∷◌, Result, IfErr}
use Rattle.rm_types.specs.declared.areas.Area.TheVariants.{Log}
use Rattle.rm_types.specs.declared.faults.Fault.TheVariants as fault
use Rattle.rm_types.specs.declared.faults.StoreFault.{StoreFault}
use Rattle.rm_types.specs.declared.faults.StoreFault.TheVariants as store
use Rattle.rm_types.specs.declared.formats.Format.{Format}
use Rattle.rm_types.specs.declared.formats.Format.TheVariants.{One}
use Rattle.rm_types.specs.declared.places.Place.{Place}
use Rattle.rm_history.specs.Acts.{Change, History}
use Rattle.rm_history.specs.Contents.{entry_of}
use Rattle.rm_history.specs.Losers.{losers_of}
use Rattle.rm_history.specs.Pending.{all_pending}
use Rattle.rm_history.specs.Transactions.{greatest_txn}
use Rattle.rm_history.specs.Undoing.{category_after}
use Rattle.rm_outside.specs.declared.volume.Volume.{Ghosts}
use Rattle.rm_pool.specs.Stores.{StoreValue}
use Rattle.rm_recovery.specs.Losers.{AreKnown, place_of}
use Rattle.rm_recovery.specs.Restarting.{IsRestarting, IsUndoDamageAt}

-- the newest of all pending changes is there
pub record IsNewest (history : History) (place : Place) : Type 0 where
  pub last : Change
  pub rest : List Change
  pub pending : all_pending history ≡ last ∷ rest
  pub is : place ≡ place_of last
  pub known : AreKnown history

-- the page's entry is right for the undo of the newest of all pending changes
abbrev pub IsRightForNewest : Format → History → Type 0
IsRightForNewest format history = (last : Change) (rest : List Change) → all_pending history ≡ last ∷ rest
    → entry_of history last.rid.page ≡ category_after format history last

-- The same transactions are there, and the same of them are unfinished.
pub record HasSameLosers (old new : History) : Type 0 where
  pub losers : losers_of new ≡ losers_of old
  pub greatest : greatest_txn new ≡ greatest_txn old

-- and the same is pending; or all but the newest is
abbrev pub HasSamePending : History → History → Type 0
HasSamePending old new = HasSameLosers old new × (all_pending new ≡ all_pending old)

abbrev pub HasOneLess : History → History → Type 0
HasOneLess old new = HasSameLosers old new × ((last : Change) (rest : List Change) → all_pending old ≡ last ∷ rest → all_pending new ≡ rest)

-- nothing is pending, and the transaction is the first that is unfinished
pub record IsNextLoser (history : History) (txn : ℕ) : Type 0 where
  pub rest : List ℕ
  pub losers : losers_of history ≡ txn ∷ rest
  pub none : all_pending history ≡ []
  pub known : AreKnown history

-- it is not any more
pub record LosesOne (old new : History) : Type 0 where
  pub losers : (txn : ℕ) (rest : List ℕ) → losers_of old ≡ txn ∷ rest → losers_of new ≡ rest
  pub greatest : greatest_txn new ≡ greatest_txn old
  pub none : all_pending new ≡ []

-- What each step of an undo leaves, also at an error: the volume as it was opened, what was logged then, and the file's size. If the
-- volume models its content after it, it did before, and the restart of any history goes on.
pub record Stepped {V : Type 0} (before after : Type 0) (old new : StoreValue V) : Type 0 where
  pub modelled : after → before
  pub opened : new.journal.opened ≡ old.journal.opened
  pub first : new.journal.first ≡ old.journal.first
  pub size : new.frames.size ≡ old.frames.size
  pub restarts : after → (first : History) → IsRestarting One old.frames.size first old.journal.history → IsRestarting One old.frames.size first new.journal.history

abbrev pub Steps : {V : Type 0} → Ghosts V → StoreValue V → StoreValue V → Type 0
Steps g old new = Stepped (g.models_content old.journal.volume) (g.models_content new.journal.volume) old new

-- and what one leaves that is done
pub record GoesOn {V : Type 0} (old new : StoreValue V) : Type 0 where
  pub known : new.journal.is_known ≡ old.journal.is_known
  pub limit : new.journal.log.limit ≡ old.journal.log.limit

-- if the volume models its content, the undo of any restart that has come to this history stops there
abbrev pub StopsUndo : Type 0 → ℕ → History → ℕ → Type 0
StopsUndo models pages now at = models → (first : History) → IsRestarting One pages first now → IsUndoDamageAt One pages first at

-- If the fault is that the volume is damaged, then area Log is, at the place where the undo stops.
abbrev pub IsStop : Type 0 → ℕ → History → StoreFault → Type 0
IsStop models pages now (store.Fault (fault.Damaged area at)) = (area ≡ Log) × StopsUndo models pages now at
IsStop models pages now (store.Fault (fault.Volume area)) = Unit {0}
IsStop models pages now store.NoMemory = Unit {0}

abbrev pub Stops : {V T : Type 0} → Ghosts V → StoreValue V → StoreValue V → Result T StoreFault → Type 0
Stops g old new result = IfErr result (IsStop (g.models_content new.journal.volume) old.frames.size old.journal.history)
