-- The chosen move is the one that the turns' looks decide, and what a turn makes that changes nothing or goes by the newest pending change.
use Rattle.std.specs.Prelude.{◌≡◌, ℕ, zero, suc, ◌+◌, ◌-◌, ◌<◌, ◌≤◌, Bool, true, false, if◌then◌else◌, List, [], ◌∷◌, length, Option, Some, None, Result, Ok, Err, OnErr}
use Rattle.std.proofs.Common.{arith, cond, refl, sym, ap, subst}
use Rattle.std.proofs.lemmas.Bool.{cond_both}
use Rattle.std.proofs.lemmas.Bool.Decides.{nat_tests}
use Rattle.std.proofs.lemmas.List.{set-get_or}
use Rattle.rm_types.specs.declared.faults.StoreFault.{StoreFault}
use Rattle.rm_core.specs.Below.{Format, Rid, Slot, Vacant, Row, Change, History, Op}
use Rattle.rm_core.specs.Names.{Setting, State, Seat, seat_at, empty_seat, Aim, compensates, reads, alters, lock_alone, Turn, prepare, prepared as prepares_is, Effect, effect, goes_to, with_effect, turns, Move, IsNext, part_end, reply_of}
use Rattle.rm_core.specs.Outcomes.{altered_reply}
use Rattle.rm_play.specs.Choosing.{first_from, first_open, lock_of, altering_to, outside, asking, returning, rolling, preparing, compensating, chosen}
use Rattle.rm_events.specs.declared.operations.Op.TheVariants as ops
use Rattle.rm_events.specs.declared.turns.Turn.{Turn as Answer}
use Rattle.rm_events.specs.declared.turns.Turn.TheVariants as answer
use Rattle.rm_ops.specs.declared.stages.Asked.{Asked}
use Rattle.rm_ops.specs.declared.stages.Asked.TheVariants as asks
use Rattle.rm_ops.specs.declared.stages.LastChange.{LastChange}
use Rattle.rm_ops.specs.Views.{View, HasSession, seat_of, op_at, length_in, last_in, pending_at, is_entry_ready, saved_in, turned, stood, prepared, compensated}
use Rattle.rm_ops.specs.Stages.{row_in, new_slot, asked_by}
use Rattle.rm_ops.specs.Making.{told_by, Makes, MakesChosen}
use Rattle.rm_ops.specs.Looking.{row_len_of, new_len_of, reply_by, outside_by, asking_by, altering_by, rolling_by, returning_by, Grants}

-- ---- the operation

pub row_len_is : (op : Op) → row_len_of (asked_by op) ≡ length (row_in op)
row_len_is (ops.Insert row) = refl
row_len_is (ops.Update rid row) = refl
row_len_is other = refl

pub new_len_is : (op : Op) → new_len_of (asked_by op) ≡ length_in (new_slot op)
new_len_is (ops.Update rid row) = refl
new_len_is other = refl

pub altered_is : (slot : Slot) → altered_reply slot ≡ reply_by (length_in slot)
altered_is Vacant = refl
altered_is (Row row) = refl

pub vacant_is : (slot : Slot) → length_in slot ≡ None → slot ≡ Vacant
vacant_is Vacant is = refl
vacant_is (Row row) is = absurd cc

pub new_row_is : (op : Op) (len : ℕ) → length_in (new_slot op) ≡ Some len → length (row_in op) ≡ len
new_row_is (ops.Update rid row) len is = cc
new_row_is other len is = absurd cc

pub outside_is : (m : Setting) (s : State) (k lsn : ℕ) (op : Op) → outside m s k lsn op ≡ outside_by m s k lsn op (asked_by op)
outside_is m s k lsn ops.Unbound = refl
outside_is m s k lsn ops.Begin = refl
outside_is m s k lsn other = refl

pub asking_is : (m : Setting) (s : State) (k lsn : ℕ) (op : Op) → asking m s k lsn op ≡ asking_by m s k lsn op (asked_by op)
asking_is m s k lsn ops.Unbound = refl
asking_is m s k lsn other = refl

-- the lock that an operation asks for
pub read_grants : (v : View) (k : ℕ) (rid : Rid) (op : Op) → asked_by op ≡ asks.Read rid → Grants v k rid false (reads rid) (lock_of op rid)
read_grants v k rid (ops.Read place) is = record { leaves = refl; told_is = refl }
read_grants v k rid other is = absurd cc

pub update_grants : (v : View) (k : ℕ) (rid : Rid) (op : Op) (len : ℕ) → asked_by op ≡ asks.Update rid len
    → Grants v k rid true (alters rid (new_slot op)) (lock_of op rid)
update_grants v k rid (ops.Update place row) len is = let same : place ≡ rid = cc in
    subst (λ (r : Rid). Grants v k r true (alters r (Row row)) (lock_alone place (Row row))) same (record { leaves = refl; told_is = refl })
update_grants v k rid other len is = absurd cc

pub delete_grants : (v : View) (k : ℕ) (rid : Rid) (op : Op) → asked_by op ≡ asks.Delete rid → Grants v k rid true (alters rid (new_slot op)) (lock_of op rid)
delete_grants v k rid (ops.Delete place) is = let same : place ≡ rid = cc in
    subst (λ (r : Rid). Grants v k r true (alters r Vacant) (lock_alone place Vacant)) same (record { leaves = refl; told_is = refl })
delete_grants v k rid other is = absurd cc

-- ---- slots and pending changes

pub altering_is : (m : Setting) (s : State) (k lsn : ℕ) (rid : Rid) (held : Slot) (op : Op)
    → altering_to m s k lsn rid held (new_slot op) ≡ altering_by m s k lsn rid op (length_in held) (length_in (new_slot op))
altering_is m s k lsn rid Vacant op = refl
altering_is m s k lsn rid (Row old) (ops.Update place row) = refl
altering_is m s k lsn rid (Row old) other = refl

pub rolling_is : (s : State) (k lsn : ℕ) (aim : Aim) (pending : List Change) → rolling s k lsn aim pending ≡ rolling_by s k lsn aim (last_in pending)
rolling_is s k lsn aim [] = refl
rolling_is s k lsn aim (last ∷ rest) = refl

pub returning_is : (seat : Seat) (number : ℕ) → returning seat number ≡ returning_by number (saved_in seat.saves number)
returning_is seat number = grind (arith, nat_tests)

pub none_is : (pending : List Change) → last_in pending ≡ None → pending ≡ []
none_is [] is = refl
none_is (last ∷ rest) is = absurd cc

-- the page that a scan finds is of the file
first_below : (test : ℕ → Bool) (from n page : ℕ) → first_from test from n ≡ Some page → page < from + n
first_below test from zero page is = absurd cc
first_below test from (suc n) page is = cond_both (test from) (Some from) (first_from test (suc from) n) (λ (found : Option ℕ). found ≡ Some page → page < from + suc n)
    (λ here found. let same : from ≡ page = cc in omega arith) (λ later found. omega (arith, first_below test (suc from) n page found)) is

pub found_below : (format : Format) (history : History) (len from stop page : ℕ) → first_open format history len from stop ≡ Some page → page < from + (stop - from)
found_below format history len from stop page is = first_below _ from (stop - from) page is

-- ---- what is made

-- a turn that leaves the session where it is changes nothing
pub stays : (v : View) (k : ℕ) (turn : Turn) (told_it : Answer) → effect v.setting.format v.state (seat_of v k) turn ≡ goes_to v.state (seat_of v k)
    → told_by turn ≡ told_it → Makes v (turns k turn) (Ok told_it) v
stays v k turn told_it is told_is =
    let after : with_effect v.state k (goes_to v.state (seat_of v k)) ≡ v.state =
    ap (λ (seats : List Seat). record v.state { seats = seats }) (set-get_or v.state.seats k empty_seat) in
    let leaves : turned v k turn ≡ v = subst (λ (e : Effect). record v { state = with_effect v.state k e } ≡ v) (sym is) (ap (λ (s : State). record v { state = s }) after) in
    record { does = (sym leaves, sym told_is) }

pub prepared_makes : (v new : View) (k lsn : ℕ) (aim : Aim) (pending : List Change) (last : LastChange) → last_in pending ≡ Some last
    → is_entry_ready v.setting.format v.state.history pending ≡ true → new ≡ stood v k (compensates aim last.page)
    → Makes v (turns k (preparing v.setting v.state lsn aim pending)) (Ok answer.Advanced) new
prepared_makes v new k lsn aim [] last is right stands = absurd cc
prepared_makes v new k lsn aim (first ∷ rest) last is right stands =
    let same : last.page ≡ first.rid.page = cc in
    subst (λ (b : Bool). Makes v (turns k (cond b (prepares_is aim first) (prepare aim first lsn))) (Ok answer.Advanced) new) (sym right)
    (record { does = (subst (λ (page : ℕ). new ≡ stood v k (compensates aim page)) same stands, refl) })

pub prepare_makes : (v new : View) (k lsn : ℕ) (aim : Aim) (pending : List Change) (last : LastChange) → last_in pending ≡ Some last
    → is_entry_ready v.setting.format v.state.history pending ≡ false → new ≡ prepared v k aim lsn pending
    → Makes v (turns k (preparing v.setting v.state lsn aim pending)) (Ok answer.Advanced) new
prepare_makes v new k lsn aim [] last is wrong logged = absurd cc
prepare_makes v new k lsn aim (first ∷ rest) last is wrong logged =
    subst (λ (b : Bool). Makes v (turns k (cond b (prepares_is aim first) (prepare aim first lsn))) (Ok answer.Advanced) new) (sym wrong)
    (record { does = (logged, refl) })

pub compensate_makes : (v new : View) (k lsn : ℕ) (aim : Aim) (pending : List Change) (last : LastChange) → last_in pending ≡ Some last
    → new ≡ compensated v k aim lsn pending → Makes v (turns k (compensating lsn aim pending)) (Ok answer.Advanced) new
compensate_makes v new k lsn aim [] last is logged = absurd cc
compensate_makes v new k lsn aim (first ∷ rest) last is logged = record { does = (logged, refl) }

-- an error leaves the view
pub err_stays : (v : View) (move : Move) (result : Result Answer StoreFault) (new : View) → Makes v move result new → OnErr result (new ≡ v)
err_stays v move (Ok told_it) new makes = tt
err_stays v move (Err fault) new makes = makes.does

pub chosen_is : (v : View) (k lsn : ℕ) (result : Result Answer StoreFault) (new : View) → IsNext v.state.history lsn
    → Makes v (chosen v.setting v.state k lsn (op_at v k)) result new → MakesChosen v k result new
chosen_is v k lsn result new next makes = record { lsn = lsn; next = next; makes = makes }
