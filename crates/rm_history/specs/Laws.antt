-- What holds of all logs, of all histories that are in order, and of all that are legal.
use Rattle.std.specs.Prelude.{◌≡◌, ℕ, List, [], ◌∷◌, ◌++◌, ◌⊎◌, ◌↔◌}
use Rattle.rm_types.specs.declared.formats.Format.{Format}
use Rattle.rm_types.specs.declared.numbers.Rid.{Rid}
use Rattle.rm_outside.specs.Images.{Bytes}
use Rattle.rm_record.specs.declared.records.Logged.{Logged}
use Rattle.rm_history.specs.Logs.{Batch, HasLog, IsDamagedAt}
use Rattle.rm_model.specs.Pages.{row_at, slot_at}
use Rattle.rm_history.specs.Acts.{Change, History, act_of}
use Rattle.rm_history.specs.Contents.{slot_of, page_of}
use Rattle.rm_history.specs.Pending.{pending_of, of_txn, all_pending, last_of, AreFalling}
use Rattle.rm_history.specs.Transactions.{IsFinished, HasRecord}
use Rattle.rm_history.specs.Losers.{losers_of, IsAmong, AreRising}
use Rattle.rm_history.specs.Rows.{applied, rows_of_log}
use Rattle.rm_history.specs.Rules.{IsInOrder}
use Rattle.rm_history.specs.Legal.{IsLegal}

-- an area has one log
abbrev pub LogsAreOne : Type 0
LogsAreOne = (area : Bytes) (batches others : List Batch) → HasLog area batches → HasLog area others → batches ≡ others

-- a damaged area has no log, and is damaged at one place alone
pub record DamageIsOne : Type 0 where
  pub no_log : (area : Bytes) (at : ℕ) (batches : List Batch) → IsDamagedAt area at → HasLog area batches → ⊥
  pub one_place : (area : Bytes) (at other : ℕ) → IsDamagedAt area at → IsDamagedAt area other → at ≡ other

-- no two records do the same with the same LSN
abbrev pub ActsDetermineRecords : Type 0
ActsDetermineRecords = (one other : Logged) → act_of one ≡ act_of other → one ≡ other

-- each change names the next one as the pending record below it, and the oldest names none
abbrev pub AreChained : List Change → Type 0
AreChained [] = Unit {0}
AreChained (newest ∷ before) = (newest.under ≡ last_of before) × AreChained before

-- one of them is on the row id
abbrev pub IsChanged : List Change → Rid → Type 0
IsChanged [] rid = ⊥
IsChanged (newest ∷ before) rid = (newest.rid ≡ rid) ⊎ IsChanged before rid

-- a log without records is legal
abbrev pub EmptyIsLegal : Type 0
EmptyIsLegal = (start : Format) → IsLegal start []

-- what stands before the newest records is in order, and legal where they are
abbrev pub PrefixesAreInOrder : Type 0
PrefixesAreInOrder = (newest before : History) → IsInOrder (newest ++ before) → IsInOrder before

abbrev pub LegalPrefixes : Type 0
LegalPrefixes = (start : Format) (newest before : History) → IsLegal start (newest ++ before) → IsLegal start before

abbrev pub LegalIsInOrder : Type 0
LegalIsInOrder = (start : Format) (history : History) → IsLegal start history → IsInOrder history

-- The pending changes of a transaction are a chain, and those on one row id are of one transaction.
abbrev pub PendingIsChained : Type 0
PendingIsChained = (history : History) → IsInOrder history → (txn : ℕ) → AreChained (pending_of history txn)

abbrev pub PendingIsOfOne : Type 0
PendingIsOfOne = (history : History) → IsInOrder history → (rid : Rid) (txn other : ℕ)
    → IsChanged (pending_of history txn) rid → IsChanged (pending_of history other) rid → txn ≡ other

-- All that is pending is what is pending of each transaction, with LSNs that fall.
pub record AllPendingIsOfEach : Type 0 where
  pub each : (history : History) (txn : ℕ) → of_txn txn (all_pending history) ≡ pending_of history txn
  pub falling : (history : History) → IsInOrder history → AreFalling (all_pending history)

-- a finished transaction has nothing pending
abbrev pub NoneOfFinished : Type 0
NoneOfFinished = (history : History) → IsInOrder history → (txn : ℕ) → IsFinished history txn → pending_of history txn ≡ []

-- The losers are the unfinished transactions with a record, with ids that rise.
pub record LosersAreUnfinished : Type 0 where
  pub rising : (history : History) → AreRising (losers_of history)
  pub exact : (history : History) → IsInOrder history → (txn : ℕ) → IsAmong (losers_of history) txn ↔ (HasRecord history txn × (IsFinished history txn → ⊥))

-- what a page holds at a row id is what its pending changes left on the committed row, or that row
abbrev pub PagesHoldWhatIsPending : Type 0
PagesHoldWhatIsPending = (history : History) → IsInOrder history → (rid : Rid) (txn : ℕ) → IsChanged (pending_of history txn) rid
    → row_at (page_of history rid.page) rid.slot ≡ applied (rows_of_log history) (pending_of history txn) rid

abbrev pub PagesHoldWhatIsCommitted : Type 0
PagesHoldWhatIsCommitted = (history : History) → IsInOrder history → (rid : Rid) → ((txn : ℕ) → IsChanged (pending_of history txn) rid → ⊥)
    → row_at (page_of history rid.page) rid.slot ≡ rows_of_log history rid

-- so where nothing is pending each page holds the committed rows, and nothing else
abbrev pub IsSettled : History → ℕ → Type 0
IsSettled history page = (number : ℕ) → slot_at (page_of history page) number ≡ slot_of (rows_of_log history (record { page = page; slot = number }))

abbrev pub SettledWhenNothingIsPending : Type 0
SettledWhenNothingIsPending = (history : History) → IsInOrder history → ((txn : ℕ) → pending_of history txn ≡ []) → (page : ℕ) → IsSettled history page
