-- What every turn of the core keeps.
use Rattle.std.specs.Prelude.{◌≡◌, ℕ, ◌<◌, List, ◌∷◌, ◌⊎◌}
use Rattle.rm_core.specs.Below.{Format, Rid, Change, History, category_of, page_of, entry_of, pending_of, IsFinished, HasRecord}
use Rattle.rm_core.specs.Below.{HasChange, IsLegal, category_after}
use Rattle.rm_core.specs.Locks.{HasGrant, HoldsAlone, Latches, Looks}
use Rattle.rm_core.specs.State.{target_of, Stage, idle, reads, fetches, alters, sets, settles, forces, finishes, prepares, compensates, Seat, Grant, State}
use Rattle.rm_core.specs.State.{seat_at}

-- the commit record is logged
abbrev pub IsOver : Stage → Type 0
IsOver forces = Unit {0}
IsOver finishes = Unit {0}
IsOver other = ⊥

-- the transaction's last pending change is on the page
abbrev pub Heads : Stage → ℕ → Type 0
Heads (settles outcome on) page = on ≡ page
Heads (prepares target on) page = on ≡ page
Heads (compensates target on) page = on ≡ page
Heads other page = ⊥

-- where its rollback goes: that change is above it
abbrev pub target_at : Stage → ℕ
target_at (prepares aim on) = target_of aim
target_at (compensates aim on) = target_of aim
target_at other = 0

-- the page whose entry the session's next turns will set right
abbrev pub Owes : Stage → ℕ → Type 0
Owes (settles outcome on) page = on ≡ page
Owes (compensates aim on) page = on ≡ page
Owes other page = ⊥

-- the page's entry is already what it will be once that change is undone
abbrev pub Readies : Stage → ℕ → Type 0
Readies (compensates target on) page = on ≡ page
Readies other page = ⊥

-- the lock that the stage goes by
abbrev pub Locked : List Grant → ℕ → Stage → Type 0
Locked grants txn (reads rid) = HasGrant grants txn rid
Locked grants txn (fetches rid) = HasGrant grants txn rid
Locked grants txn (alters rid slot) = HoldsAlone grants txn rid
Locked grants txn (sets rid slot) = HoldsAlone grants txn rid
Locked grants txn other = Unit {0}

-- there is a last pending change; it is on the page, and above the target
abbrev pub HeadOn : List Change → ℕ → ℕ → Type 0
HeadOn pending page target = (last : Change) × (rest : List Change) × (pending ≡ last ∷ rest) × (last.rid.page ≡ page) × (target < last.lsn)

-- what is known of a session that has a transaction
pub record Seated (format : Format) (history : History) (next : ℕ) (seat : Seat) : Type 0 where
  pub below : seat.txn < next
  pub over : IsOver seat.stage → IsFinished history seat.txn
  pub active : (IsOver seat.stage → ⊥) → IsFinished history seat.txn → ⊥
  pub head : (page : ℕ) → Heads seat.stage page → HeadOn (pending_of history seat.txn) page (target_at seat.stage)
  pub ready : (page : ℕ) → Readies seat.stage page → (last : Change) (rest : List Change) → pending_of history seat.txn ≡ last ∷ rest
      → (last.rid.page ≡ page) × (entry_of history page ≡ category_after format history last)

-- the page's entry is its category
abbrev pub IsRight : Format → History → ℕ → Type 0
IsRight format history page = entry_of history page ≡ category_of format (page_of history page)

-- What holds between turns, of the parts of a state.
pub record Holds (format : Format) (history : History) (grants : List Grant) (next : ℕ) (seat : ℕ → Seat) : Type 0 where
  pub legal : IsLegal format history
  -- each change record of an unfinished transaction has its exclusive lock, and no two locks are incompatible
  pub granted : (txn : ℕ) (rid : Rid) → HasChange history txn rid → (IsFinished history txn → ⊥) → HoldsAlone grants txn rid
  pub apart : (txn other : ℕ) (rid : Rid) → HoldsAlone grants txn rid → HasGrant grants other rid → txn ≡ other
  -- each id with a record is below the next one, which is not 0
  pub fresh : (txn : ℕ) → HasRecord history txn → txn < next
  pub some : 0 < next
  pub locked : (k : ℕ) → Locked grants (seat k).txn (seat k).stage
  pub seated : (k : ℕ) → ((seat k).txn ≡ 0 → ⊥) → Seated format history next (seat k)
  pub bare : (k : ℕ) → (seat k).txn ≡ 0 → (seat k).stage ≡ idle
  pub single : (j k : ℕ) → ((seat k).txn ≡ 0 → ⊥) → (seat j).txn ≡ (seat k).txn → j ≡ k
  -- no two latches are incompatible
  pub latched : (j k page : ℕ) → Latches (seat k).stage page → Latches (seat j).stage page ⊎ Looks (seat j).stage page → j ≡ k
  -- a page whose entry is not right is one that a session will set right
  pub owing : (page : ℕ) → IsRight format history page ⊎ ((k : ℕ) × Owes (seat k).stage page)

-- What every turn keeps.
abbrev pub Kept : Format → State → Type 0
Kept format s = Holds format s.history s.grants s.next (seat_at s.seats)
