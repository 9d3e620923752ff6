-- A session's move for an operation is one but for its free choices: it is the chosen one, but for the log's room.
use Rattle.std.specs.Bool.{Decides}
use Rattle.std.specs.Prelude.{◌≡◌, ℕ, ◌+◌, ◌-◌, ◌*◌, ◌^◌, ◌==◌, ◌<◌, ◌≤◌, max, Bool, true, false, Option, Some, None, List, [], ◌∷◌, length, nat_lt, nat_le}
use Rattle.std.specs.Prelude.{◌&&◌, if◌then◌else◌}
use Rattle.rm_core.specs.Below.{category_bytes, Rid, MAX_SLOT, Slot, Vacant, Row, CAPACITY, slot_at, Change, page_of, entry_of}
use Rattle.rm_core.specs.Below.{IsSlotForRow, RowFits, unreserved, Op}
use Rattle.rm_core.specs.Names.{after, Kept, Asks, IsInside, Wants, IsBlockedBy, IsSkipped, IsSeated, May, SlotFits, Setting, again, log_full, spent, Bars}
use Rattle.rm_core.specs.Names.{IsSpent, Lacks, Move, turns, answered, CHANGE_COST, owed, Scans, IsHeld, MayTry, part_end, end_of, returns, Stage}
use Rattle.rm_core.specs.Names.{idle, Seat, State, seat_at, Turn, skip, unname, refuse, begin, scan, scan_last, latch, try, try_last, insert, lock, lock_alone}
use Rattle.rm_core.specs.Names.{wait, die, lack, alter}
use Rattle.rm_core.specs.Names.{back}
use Rattle.rm_play.specs.{Takes, TakesAt, MayTake, IsMoveFor, erased, AsksRoom, IsAlike, MovesAreOne, slot_for, found_at, scanning, latching, latching_at}
use Rattle.rm_play.specs.{locking_against, locking, altering_to, rolling, outside, asking, chosen_at}
use Rattle.rm_core.proofs.Names.{nat_tests, inl, inr, cond, refl, sym, ap, subst, ◌∙◌, arith, cases_eq, Decides-and, Decides-eqb, Decides-ltb}
use Rattle.rm_core.proofs.Runs.{run_kept}
use Rattle.rm_play.proofs.Finding.{if_else, decides_le, decides_number, IsLeast, In, first_is_least, barring_is_least, Keeps, blocker_is_least, slot_is_for_row}
use Rattle.rm_events.specs.declared.operations.Op.TheVariants as ops

-- a test that is decided
yes_it : {X A : Type 0} {b : Bool} {x : X} (y : X) → Decides b A → A → x ≡ cond b x y
yes_it {X} {A} {b} {x} y decides is = if_else b x y (λ (z : X). x ≡ z) decides (λ holds. refl) (λ fails. absurd (fails is))

no_it : {X A : Type 0} {b : Bool} {y : X} (x : X) → Decides b A → (A → ⊥) → y ≡ cond b x y
no_it {X} {A} {b} {y} x decides not = if_else b x y (λ (z : X). y ≡ z) decides (λ holds. absurd (not holds)) (λ fails. refl)

-- what is least with a property is one
found_one : (P : ℕ → Type 0) (one other : Option ℕ) → IsLeast P one → IsLeast P other → one ≡ other
found_one P one other is has = grind (arith, nat_tests)

-- the chosen move at an offset of 0, by the stage first
abbrev pivot_at : Setting → State → ℕ → Op → Stage → Move
pivot_at m s k op idle = if (seat_at s.seats k).txn == 0 then outside m s k 0 op else turns k (asking m s k 0 op)
pivot_at m s k op stage = chosen_at m s k 0 op stage

abbrev pivot : Setting → State → ℕ → Op → Move
pivot m s k op = pivot_at m s k op (seat_at s.seats k).stage

module _ (m : Setting) (s : State) (k : ℕ) (op : Op) (bare : (seat_at s.seats k).txn ≡ 0 → (seat_at s.seats k).stage ≡ idle) where
  abbrev seat : Seat
  seat = seat_at s.seats k

  -- the move is the chosen one, but for its free choices
  abbrev Is : Move → Type 0
  Is move = move ≡ pivot m s k op

  -- the log's size with the turn is within the limit
  abbrev need : Turn → ℕ
  need turn = end_of (after m.format s k seat turn).history + CHANGE_COST + owed (after m.format s k seat turn)

  at_stage : {stage : Stage} {move : Move} → seat.stage ≡ stage → move ≡ pivot_at m s k op stage → Is move
  at_stage at is = is ∙ ap (pivot_at m s k op) (sym at)

  -- of an idle session, outside a transaction and in one
  outside_is : {o : Op} {move : Move} → seat.stage ≡ idle → op ≡ o → seat.txn ≡ 0 → move ≡ outside m s k 0 o → Is move
  outside_is at same none is = at_stage at (is ∙ ap (outside m s k 0) (sym same) ∙ yes_it _ (Decides-eqb seat.txn 0) none)

  asked_is : {o : Op} {turn : Turn} → (seat.txn ≡ 0 → ⊥) → seat.stage ≡ idle → (seat.stage ≡ idle → op ≡ o) → turn ≡ asking m s k 0 o → Is (turns k turn)
  asked_is some at takes is = at_stage at (ap (turns k) (is ∙ ap (asking m s k 0) (sym (takes at))) ∙ no_it _ (Decides-eqb seat.txn 0) some)

  skip_is : (o : Op) → seat.stage ≡ idle → op ≡ o → IsSkipped seat o → Is (turns k (skip o))
  skip_is o at same is = grind (arith, nat_tests)

  abbrev Open : List ℕ → ℕ → Type 0
  Open row page = category_bytes m.format * entry_of s.history page + length row ≤ CAPACITY

  scans : (row : List ℕ) (from : ℕ) (turn : Turn) (found : Option ℕ) → IsLeast (In (Open row) from (part_end m.pages from - from)) found
      → turn ≡ found_at m.pages (part_end m.pages from) row from found → turn ≡ scanning m s row from
  scans row from turn found least is = is ∙ ap (found_at m.pages (part_end m.pages from) row from) (found_one _ _ _ least (first_is_least _ (Open row)
      (λ page. decides_le (category_bytes m.format * entry_of s.history page + length row) CAPACITY) from (part_end m.pages from - from)))

  scan_is : (stage : Stage) (row : List ℕ) (from : ℕ) {turn : Turn} → seat.stage ≡ stage → (seat.txn ≡ 0 → ⊥) → Scans stage row from
      → (seat.stage ≡ idle → op ≡ ops.Insert row) → turn ≡ scanning m s row from → Is (turns k turn)
  scan_is stage row from at some never inserts is = grind (arith, nat_tests)

  asks_it : (o : Op) (rid : Rid) (alone : Bool) → Asks o rid alone → locking m s seat o rid alone ≡ asking m s k 0 o
  asks_it o rid alone asks = grind (arith, nat_tests)

  decides_inside : (rid : Rid) → Decides (nat_lt rid.page m.pages && nat_le rid.slot MAX_SLOT) (IsInside m.pages rid)
  decides_inside rid = Decides-and _ _ (Decides-ltb rid.page m.pages) (decides_le rid.slot MAX_SLOT)

  locked : (o : Op) (rid : Rid) (alone : Bool) {turn : Turn} (found : Option ℕ) → Asks o rid alone → IsInside m.pages rid
      → IsLeast (Keeps s.grants seat.txn rid alone) found → turn ≡ locking_against s seat o rid alone found → turn ≡ asking m s k 0 o
  locked o rid alone found asks inside_it least is = is ∙ ap (locking_against s seat o rid alone) (found_one _ _ _ least (blocker_is_least s.grants seat.txn rid alone))
      ∙ yes_it _ (decides_inside rid) inside_it ∙ asks_it o rid alone asks

  blocked : {rid : Rid} {alone : Bool} {holder : ℕ} → IsBlockedBy s seat rid alone holder → IsLeast (Keeps s.grants seat.txn rid alone) (Some holder)
  blocked is = ((is.other, is.blocks), λ lower below keeps. is.least lower below keeps.0 keeps.1)

  wanting : (stage : Stage) (page : ℕ) → seat.stage ≡ stage → Wants s seat stage page → Is (latching_at s k page)
  wanting stage page at is = grind (arith, nat_tests)

  latching_is : (page : ℕ) (found : Option ℕ) → Wants s seat seat.stage page → IsLeast (Bars s k page) found → Is (latching s k page found)
  latching_is page found wants_it least = ap (latching s k page) (found_one _ _ _ least (barring_is_least s k page)) ∙ wanting seat.stage page refl wants_it

  slot_is : (page slot : ℕ) → IsSlotForRow (IsHeld s.grants seat.txn page) (page_of s.history page) slot → slot ≡ slot_for s seat page
  slot_is page slot is =
      let IsFree : ℕ → Type 0 = λ (n : ℕ). (slot_at (page_of s.history page) n ≡ Vacant) × (IsHeld s.grants seat.txn page n → ⊥) in
      let has = slot_is_for_row s seat page in
      let same = found_one IsFree (Some slot) (Some (slot_for s seat page)) ((is.vacant, is.free), λ lower below free. is.least lower below free.0 free.1)
      ((has.vacant, has.free), λ lower below free. has.least lower below free.0 free.1) in cc

  tries_is : (row : List ℕ) (page slot : ℕ) (turn : ℕ → Turn) → MayTry s seat row page slot
      → turn (slot_for s seat page) ≡ cond (page + 1 == m.pages) (try_last row page (slot_for s seat page)) (try row page (slot_for s seat page))
      → Is (turns k (turn slot))
  tries_is row page slot turn may is =
      let same : slot ≡ slot_for s seat page = slot_is page slot may.is_slot in
      at_stage may.at (ap (λ (n : ℕ). turns k (turn n)) same ∙ ap (turns k) is
      ∙ no_it _ (decides_le _ CAPACITY) (λ fits. may.lacks (subst (λ (n : ℕ). RowFits s.history seat.txn page n (length row)) (sym same) fits)))

  alter_is : (rid : Rid) (held slot : Slot) → SlotFits s.history seat.txn rid held slot → need (alter rid slot 0) ≤ m.limit
      → turns k (alter rid slot 0) ≡ altering_to m s k 0 rid held slot
  alter_is rid held slot fits room = grind (arith, nat_tests)

  lack_is : (rid : Rid) (held : Slot) (row : List ℕ) → (held ≡ Vacant → ⊥) → (SlotFits s.history seat.txn rid held (Row row) → ⊥)
      → turns k (lack rid row (unreserved s.history seat.txn rid.page)) ≡ altering_to m s k 0 rid held (Row row)
  lack_is rid Vacant row some not = absurd (some refl)
  lack_is rid (Row old) row some not = no_it _ (decides_le _ CAPACITY) not

  back_is : (number lsn : ℕ) (pending : List Change) → ((last : Change) (rest : List Change) → pending ≡ last ∷ rest → last.lsn ≤ lsn)
      → turns k (back number lsn) ≡ rolling s k 0 (returns number lsn) pending
  back_is number lsn [] below = refl
  back_is number lsn (last ∷ rest) below = no_it _ (Decides-ltb lsn last.lsn) (λ above. let less : last.lsn ≤ lsn = below last rest refl in omega arith)

  only : (turn : Turn) → (seat.stage ≡ idle → Takes turn op) → IsSeated seat turn → May m.format m.pages s k seat turn → need (erased turn) ≤ m.limit
      → Is (turns k (erased turn))
  only (skip o) takes some may room = skip_is o may.0 (sym (takes may.0)) may.1
  only unname takes some may room = elim (cases_eq seat.txn 0) [
    | inl none ↦ outside_is may (takes may) none refl
    | inr other ↦ asked_is other may takes refl
  ]
  only (refuse o rid) takes some may room = asked_is some may.0 (λ at. sym (takes at)) (no_it _ (decides_inside rid) may.2 ∙ asks_it o rid may.1.0 may.1.1)
  only (begin txn) takes some may room =
      let at : seat.stage ≡ idle = bare may.0 in
      let fits : need (begin s.next) ≤ m.limit = subst (λ (id : ℕ). need (begin id) ≤ m.limit) may.1 room in
      outside_is at (takes at) may.0 (ap (λ (id : ℕ). turns k (begin id)) may.1 ∙ yes_it _ (decides_le _ m.limit) (omega arith)
      ∙ no_it _ (Decides-eqb s.next (2 ^ 32)) (λ all. omega (arith, may.2)))
  only (scan row from to true) takes some may room = scan_is seat.stage row from refl some may.at takes (scans row from _ (Some to)
      ((may.forth, omega (arith, may.stops.0, may.forth), omega (arith, may.stops.1)), λ lower less is. absurd (omega (arith, is.2, may.passed lower is.0 less))) refl)
  only (scan row from to false) takes some may room = scan_is seat.stage row from refl some may.at takes (scans row from _ None
      (λ page is. absurd (omega (arith, is.2, may.passed page is.0 (omega (arith, is.0, is.1, may.stops.0)))))
      (ap (λ (p : ℕ). scan row from p false) may.stops.0 ∙ no_it _ (Decides-eqb (part_end m.pages from) m.pages) (λ last. omega (arith, may.stops.0, may.stops.1))))
  only (scan_last row from) takes some may room = scan_is seat.stage row from refl some may.at takes (scans row from _ None
      (λ page is. absurd (omega (arith, is.2, may.passed page is.0 (omega (arith, is.0, is.1, may.last)))))
      (yes_it _ (Decides-eqb (part_end m.pages from) m.pages) may.last))
  only (latch page) takes some may room =
      latching_is page None may.wants_it (λ j bars. elim bars.1 [ inl alone ↦ may.free j bars.0 alone | inr looks ↦ may.looked j bars.0 looks.0 looks.1 ])
  only (try row page slot) takes some may room = tries_is row page slot (try row page) may.0 (no_it _ (Decides-eqb (page + 1) m.pages) (λ last. omega (arith, may.1)))
  only (try_last row page slot) takes some may room = tries_is row page slot (try_last row page) may.0 (yes_it _ (Decides-eqb (page + 1) m.pages) may.1)
  only (insert row rid lsn) takes some may room =
      let same : rid.slot ≡ slot_for s seat rid.page = slot_is rid.page rid.slot may.is_slot in
      let place : ℕ → Turn = λ (n : ℕ). insert row (record { page = rid.page; slot = n }) 0 in
      at_stage may.at (ap (λ (n : ℕ). turns k (place n)) same
      ∙ yes_it _ (decides_le _ m.limit) (subst (λ (n : ℕ). need (place n) ≤ m.limit) same room)
      ∙ yes_it _ (decides_le _ CAPACITY) (subst (λ (n : ℕ). RowFits s.history seat.txn rid.page n (length row)) same may.fits))
  only (lock rid) takes some may room = asked_is some may.at takes
      (locked (ops.Read rid) rid false None (refl, refl) may.inside (λ other keeps. may.free other keeps.0 keeps.1) refl)
  only (lock_alone rid Vacant) takes some may room = asked_is some may.at takes
      (locked (ops.Delete rid) rid true None (refl, refl) may.inside (λ other keeps. may.free other keeps.0 keeps.1) refl)
  only (lock_alone rid (Row row)) takes some may room = asked_is some may.at takes
      (locked (ops.Update rid row) rid true None (refl, refl) may.inside (λ other keeps. may.free other keeps.0 keeps.1) refl)
  only (wait o rid alone holder) takes some may room = asked_is some may.0.at (λ at. sym (takes at))
      (locked o rid alone (Some holder) may.2 may.3 (blocked may.0) (yes_it _ (Decides-ltb seat.txn holder) may.1))
  only (die o rid alone holder) takes some may room = asked_is some may.0.at (λ at. sym (takes at))
      (locked o rid alone (Some holder) may.2 may.3 (blocked may.0) (no_it _ (Decides-ltb seat.txn holder) (λ less. omega (arith, may.1))))
  only turn takes some may room = grind (arith, nat_tests, asked_is, at_stage, lack_is, alter_is, back_is, decides_number)

  spent_is : (last : ℕ) → seat.stage ≡ idle → op ≡ ops.Begin → IsSpent s k → last + 1 ≡ s.next → Is (answered k (spent last))
  spent_is last at same is before = grind (arith, nat_tests)

-- the move that is chosen where the log has room: for a move that is refused room, its turn
abbrev Chooses : Move → Move → Type 0
Chooses (turns j turn) choice = turns j (erased turn) ≡ choice
Chooses (answered j (log_full at)) choice = (turn : Turn) × AsksRoom (erased turn) × (turns j (erased turn) ≡ choice)
Chooses (answered j answer) choice = answered j answer ≡ choice
Chooses move choice = ⊥

lacks_asks : (limit at : ℕ) (turn : Turn) (new : State) → Lacks limit at turn new → AsksRoom (erased turn)
lacks_asks limit at turn new lacks = grind (arith, nat_tests)

alike : (move other choice : Move) → Chooses move choice → Chooses other choice → IsAlike move other
alike move other choice is has = grind (arith, nat_tests)

module _ (m : Setting) (s : State) (k : ℕ) (op : Op) (kept : Kept m.format s) where
  abbrev limited : ℕ → Setting
  limited limit = record { format = m.format; pages = m.pages; limit = limit }

  -- the move chooses, under each limit from this number on
  abbrev Enough : Move → ℕ → Type 0
  Enough move enough = (limit : ℕ) → enough ≤ limit → Chooses move (pivot (limited limit) s k op)

  turn_chooses : (j : ℕ) (turn : Turn) → j ≡ k → MayTake m s k op turn → Enough (turns j turn) (need m s k op (kept.bare k) (erased turn))
  turn_chooses j turn same take limit room = ap (λ (n : ℕ). turns n (erased turn)) same
      ∙ only (limited limit) s k op (kept.bare k) turn (λ at. subst (λ (stage : Stage). TakesAt stage turn op) at take.takes) take.seated take.may room

  chooses : (move : Move) → IsMoveFor m s k op move → (enough : ℕ) × Enough move enough
  chooses (turns j turn) is = (_, turn_chooses j turn is.0 is.1)
  chooses (answered j (log_full at)) is = (_, λ limit room. (is.1.0, lacks_asks m.limit at is.1.0 _ is.1.3, turn_chooses j is.1.0 is.0 is.1.1 limit room))
  chooses (answered j (again by)) is =
      let barred : Bars s k is.1.page by × ((lower : ℕ) → lower < by → Bars s k is.1.page lower → ⊥) = (is.1.bars, is.1.least) in
      (0, λ limit room. ap (λ (n : ℕ). answered n (again by)) is.0 ∙ latching_is (limited limit) s k op (kept.bare k) is.1.page (Some by) is.1.wants_it barred)
  chooses (answered j (spent last)) is =
      (0, λ limit room. ap (λ (n : ℕ). answered n (spent last)) is.0 ∙ spent_is (limited limit) s k op (kept.bare k) last is.1 is.2 is.3 is.4)
  chooses other is = absurd is

pub moves_are_one : MovesAreOne
moves_are_one m k op move other run is has =
    let one = chooses m.opening.setting m.state k op (run_kept m run) move is in
    let two = chooses m.opening.setting m.state k op (run_kept m run) other has in
    let limit : ℕ = max one.0 two.0 in alike move other _ (one.1 limit (omega arith)) (two.1 limit (omega arith))
