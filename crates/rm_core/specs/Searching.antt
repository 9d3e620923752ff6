-- When an insert may search, and when it finds its place.
use Rattle.std.specs.Prelude.{◌≡◌, ℕ, ◌+◌, ◌*◌, ◌/◌, ◌<◌, ◌≤◌, min, Bool, true, false, List, length}
use Rattle.rm_core.specs.Below.{Format, Rid, BLOCK_PAGES, IsExcluded, History, page_of}
use Rattle.rm_core.specs.Below.{entry_of, IsSlotForRow, RowFits}
use Rattle.rm_core.specs.Locks.{HasGrant}
use Rattle.rm_core.specs.Sizes.{IsNext}
use Rattle.rm_core.specs.State.{Stage, idle, seeks, tries, Seat, Grant, State}

-- by its entry the page is passed over for the row
abbrev pub IsPassed : Format → History → List ℕ → ℕ → Type 0
IsPassed format history row page = IsExcluded format (entry_of history page) (length row)

-- an insert scans from the page on: it begins at page 0
abbrev pub Scans : Stage → List ℕ → ℕ → Type 0
Scans idle row from = from ≡ 0
Scans (seeks sought on) row from = (sought ≡ row) × (on ≡ from)
Scans other row from = ⊥

-- another transaction has a lock on the slot of the page
abbrev pub IsHeld : List Grant → ℕ → ℕ → ℕ → Type 0
IsHeld grants txn page number = (other : ℕ) × (other ≡ txn → ⊥) × HasGrant grants other (record { page = page; slot = number })

-- the end of the part of the file that a scan from there looks at: of the inventory block of that page
abbrev pub part_end : ℕ → ℕ → ℕ
part_end pages from = min pages ((from / BLOCK_PAGES + 1) * BLOCK_PAGES)

-- the scan has found a page, or come to the end of its part, which is not the last
abbrev pub StopsAt : Format → ℕ → History → List ℕ → ℕ → ℕ → Bool → Type 0
StopsAt format pages history row from to true = (to < part_end pages from) × (IsPassed format history row to → ⊥)
StopsAt format pages history row from to false = (to ≡ part_end pages from) × (to < pages)

pub record MayScan (format : Format) (pages : ℕ) (s : State) (seat : Seat) (row : List ℕ) (from to : ℕ) (found : Bool) : Type 0 where
  pub at : Scans seat.stage row from
  pub forth : from ≤ to
  pub passed : (page : ℕ) → from ≤ page → page < to → IsPassed format s.history row page
  pub stops : StopsAt format pages s.history row from to found

-- the scan has passed the rest of the file
pub record MayEndScan (format : Format) (pages : ℕ) (s : State) (seat : Seat) (row : List ℕ) (from : ℕ) : Type 0 where
  pub at : Scans seat.stage row from
  pub last : part_end pages from ≡ pages
  pub passed : (page : ℕ) → from ≤ page → page < pages → IsPassed format s.history row page

-- the page has no room for the row
pub record MayTry (s : State) (seat : Seat) (row : List ℕ) (page slot : ℕ) : Type 0 where
  pub at : seat.stage ≡ tries row page
  pub is_slot : IsSlotForRow (IsHeld s.grants seat.txn page) (page_of s.history page) slot
  pub lacks : RowFits s.history seat.txn page slot (length row) → ⊥

pub record MayInsert (s : State) (seat : Seat) (row : List ℕ) (rid : Rid) (lsn : ℕ) : Type 0 where
  pub at : seat.stage ≡ tries row rid.page
  pub is_slot : IsSlotForRow (IsHeld s.grants seat.txn rid.page) (page_of s.history rid.page) rid.slot
  pub fits : RowFits s.history seat.txn rid.page rid.slot (length row)
  pub placed : IsNext s.history lsn
