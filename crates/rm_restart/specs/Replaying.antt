-- What a replay of a history has found.
use Rattle.std.specs.Prelude.{◌≡◌, ℕ, ◌<◌, ◌≤◌, Bool, true, false, List, [], ◌∷◌, length, ◌⊎◌, slice_set}
use Rattle.std.specs.List.{All}
use Rattle.std.specs.Ordering.{nat_cmp}
use Rattle.std.specs.BTreeSet.{contains}
use Rattle.rm_types.specs.declared.numbers.Lsn.{Lsn}
use Rattle.rm_types.specs.declared.numbers.Rid.{Rid}
use Rattle.rm_types.specs.declared.numbers.TxnId.{TxnId}
use Rattle.rm_types.specs.declared.slots.Slot.{Slot}
use Rattle.rm_types.specs.declared.slots.TheConstants.{CAPACITY}
use Rattle.rm_model.specs.Pages.{PageValue, used}
use Rattle.rm_model.specs.Files.{slots_of, page_at}
use Rattle.rm_record.specs.declared.records.LogRecord.{LogRecord}
use Rattle.rm_record.specs.declared.records.LogRecord.TheVariants.{Insert}
use Rattle.rm_history.specs.Acts.{Change, History, act_at, lsn_of, newest_lsn}
use Rattle.rm_history.specs.Contents.{page_of, page_after}
use Rattle.rm_history.specs.Pending.{pending_of}
use Rattle.rm_history.specs.Transactions.{greatest_txn}
use Rattle.rm_history.specs.Counts.{repeat_count}
use Rattle.rm_history.specs.Batched.{AreBelow}
use Rattle.rm_apply.specs.Redo.{IsUnfit}
use Rattle.rm_restart.specs.Plain.{ArePlain}
use Rattle.rm_restart.specs.declared.replay.Replay.{Replay}

-- there are some changes
abbrev pub has_some : List Change → Bool
has_some [] = false
has_some (newest ∷ before) = true

-- each page fits before each record of the history
abbrev pub FitBefore : History → Type 0
FitBefore [] = Unit {0}
FitBefore (act ∷ before) = ((page : ℕ) → used (page_of before page) ≤ CAPACITY) × FitBefore before

-- The pages are those of the history, which is plain and has these pending transactions, this greatest id and this many inserts.
-- They fit, and did before each record.
pub record Replays (pages : ℕ) (history : History) (replay : Replay) : Type 0 where
  pub count : length (slots_of replay.pages.items) ≡ pages
  pub below : AreBelow pages history
  pub plain : ArePlain history
  pub pages_are : (page : ℕ) → page < pages → page_at (slots_of replay.pages.items) page ≡ page_of history page
  pub fits : (page : ℕ) → used (page_of history page) ≤ CAPACITY
  pub fitted : FitBefore history
  pub pending_are : (id : ℕ) → contains nat_cmp replay.pending id ≡ has_some (pending_of history id)
  pub greatest_is : replay.greatest ≡ greatest_txn history
  pub inserts_are : replay.inserts ≡ repeat_count history

-- each record's LSN is above those before it
abbrev pub AreRising : History → Type 0
AreRising [] = Unit {0}
AreRising (act ∷ before) = (newest_lsn before < lsn_of act) × AreRising before

-- each page's LSN is below this one
abbrev pub HaveLsnsBelow : ℕ → List PageValue → Type 0
HaveLsnsBelow lsn pages = All (λ page. page.lsn.0 < lsn) pages

-- the record is an insert of the transaction at the row id
pub record IsInsertAt (what : LogRecord) (txn : TxnId) (rid : Rid) : Type 0 where
  pub under : Lsn
  pub need : ℕ
  pub row : List ℕ
  pub is : what ≡ Insert txn under rid need row

-- the row id names no page of these, or its page cannot have what the record sets
abbrev pub LacksPlace : List (List Slot) → Rid → LogRecord → Type 0
LacksPlace pages rid what = (length pages ≤ rid.page) ⊎ IsUnfit (page_at pages rid.page) what

-- the page of the row id is what it is after the record; the others stay
pub record IsRedone (old new : List PageValue) (rid : Rid) (what : LogRecord) (lsn : ℕ) : Type 0 where
  pub inside : rid.page < length (slots_of old)
  pub fits : IsUnfit (page_at (slots_of old) rid.page) what → ⊥
  pub slots_are : slots_of new ≡ slice_set (slots_of old) rid.page (page_after (act_at lsn what) rid.page (page_at (slots_of old) rid.page))
