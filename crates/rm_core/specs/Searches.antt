-- Which pages an insert has handled before it is told that there is no space.
use Rattle.std.specs.Prelude.{◌≡◌, ℕ, suc, ◌+◌, ◌≤◌, ◌<◌, ◌==◌, if◌then◌else◌, Bool, false, List, [], ◌∷◌, length, Some, ◌⊎◌}
use Rattle.rm_core.specs.Below.{Rid, Slot, slot_at, page_of}
use Rattle.rm_core.specs.Below.{RowFits, Actor, Session, Seen}
use Rattle.rm_core.specs.Events.{Event}
use Rattle.rm_core.specs.Moves.{turns, Moves}
use Rattle.rm_core.specs.Outcomes.{no_space, saw}
use Rattle.rm_core.specs.Runs.{Machine, IsRun}
use Rattle.rm_core.specs.Searching.{IsPassed}
use Rattle.rm_core.specs.State.{State, seat_at}
use Rattle.rm_core.specs.Turns.{scan, scan_last, try, try_last}
use Rattle.rm_events.specs.declared.events.Seen.TheVariants as sees

-- one value where the actor is that session, and else another
abbrev pub of_session : {A : Type 0} → Actor → ℕ → A → A → A
of_session (Session (suc k)) session his other = if k == session then his else other
of_session actor session his other = other

-- what a session's turns saw, the newest first
abbrev pub seens_of : List Event → ℕ → List Seen
seens_of [] session = []
seens_of (newest ∷ before) session = of_session newest.actor session (newest.seen ∷ seens_of before session) (seens_of before session)

-- In the insert whose turns come last the page was excluded by its entry, or tried: an insert begins with a scan from page 0, and no
-- other scan of it begins there.
abbrev pub IsHandledBy : Seen → ℕ → Type 0 → Type 0
IsHandledBy (sees.Scan from to found) page before = ((from ≤ page) × (page < to)) ⊎ ((from ≡ 0 → ⊥) × before)
IsHandledBy (sees.Tried on used others need slots slot) page before = (on ≡ page) ⊎ before
IsHandledBy (sees.Latch on) page before = before
IsHandledBy seen page before = ⊥

abbrev pub IsHandled : List Seen → ℕ → Type 0
IsHandled [] page = ⊥
IsHandled (newest ∷ before) page = IsHandledBy newest page (IsHandled before page)

-- no page is left after this
abbrev pub EndsSearch : ℕ → Seen → Type 0
EndsSearch pages (sees.Scan from to found) = (to ≡ pages) × (found ≡ false)
EndsSearch pages (sees.Tried on used others need slots slot) = on + 1 ≡ pages
EndsSearch pages seen = ⊥

-- An insert is told that there is no space where each page of the file was handled in it, and nowhere else: where none is left it is told.
pub record NoSpaceIsExact : Type 0 where
  pub only : (m : Machine) (newest : Event) (before : List Event) (k : ℕ) (row : List ℕ) → IsRun m → m.trace ≡ newest ∷ before
      → newest.actor ≡ Session (suc k) → newest.done ≡ Some (no_space row) → (page : ℕ) → page < m.opening.setting.pages → IsHandled (seens_of m.trace k) page
  pub always : (m : Machine) (newest : Event) (before : List Event) → IsRun m → m.trace ≡ newest ∷ before → EndsSearch m.opening.setting.pages newest.seen
      → (row : List ℕ) × (newest.done ≡ Some (no_space row))
  -- what a scan passes by is excluded by its entry, and a page that was tried in vain has no room
  pub scanned : (m : Machine) (k : ℕ) (row : List ℕ) (from to : ℕ) (found : Bool) (new : State) → Moves m.opening.setting m.state (turns k (scan row from to found)) new
      → (page : ℕ) → from ≤ page → page < to → IsPassed m.opening.setting.format m.state.history row page
  pub scanned_last : (m : Machine) (k : ℕ) (row : List ℕ) (from : ℕ) (new : State) → Moves m.opening.setting m.state (turns k (scan_last row from)) new
      → (page : ℕ) → from ≤ page → page < m.opening.setting.pages → IsPassed m.opening.setting.format m.state.history row page
  pub tried : (m : Machine) (k : ℕ) (row : List ℕ) (page number : ℕ) (new : State) → Moves m.opening.setting m.state (turns k (try row page number)) new
      → RowFits m.state.history (seat_at m.state.seats k).txn page number (length row) → ⊥
  pub tried_last : (m : Machine) (k : ℕ) (row : List ℕ) (page number : ℕ) (new : State) → Moves m.opening.setting m.state (turns k (try_last row page number)) new
      → RowFits m.state.history (seat_at m.state.seats k).txn page number (length row) → ⊥

-- A read is told what the slot of the page holds, also where its transaction never commits.
abbrev pub ReadsAreExact : Type 0
ReadsAreExact = (m : Machine) (newest : Event) (before : List Event) (rid : Rid) (slot : Slot) → IsRun m → m.trace ≡ newest ∷ before
    → newest.done ≡ Some (saw rid slot) → slot ≡ slot_at (page_of m.state.history rid.page) rid.slot
