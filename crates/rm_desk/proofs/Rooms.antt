-- Room on pages and in the log.
use Rattle.rm_desk.proofs.Names.{◌≡◌, ℕ, ◌+◌, ◌<◌, ◌≤◌, ◌↔◌, Bool, List, [], ◌∷◌, length, Some, None, refl, sym, ◌∙◌, arith, nat_tests}
use Rattle.rm_desk.proofs.Names.{Rid, Slot, Vacant, Row, row_length, Setting, Sessions, Tables, seat_at, Seat, owed_in, owed_by, begun, TXN_BYTES, pending_of, idle}
use Rattle.std.proofs.Common.{length-append}
use Rattle.rm_record.specs.Records.{spelling, row_bytes}
use Rattle.rm_core.specs.Names.{change_record}
use Rattle.rm_desk.proofs.Names.{PendingChange, Change, History, newest_in, last_in, others_need, page_of, used, set_slot, undo_fits, CAPACITY, last_is_of}
use Rattle.rm_desk.proofs.Names.{Reserved, HasEntry, IsOther, cases_eq, inl, inr, subst, StackValue, SetsStack, stack_at, length_in, IfSome}
use Rattle.std.specs.Prelude.{nat_le, Result, Ok, Err, OnOk, OnErr, MatchOption}
use Rattle.rm_model.specs.Pages.{row_of}
use Rattle.rm_desk.specs.Desks.{Stands}
use Rattle.rm_desk.proofs.Standing.{owed_moves}

pub insert_bytes : (txn under : ℕ) (rid : Rid) (need : ℕ) (row : List ℕ) → length (spelling (change_record txn under rid need Vacant (Row row))) ≡ 23 + length row
insert_bytes txn under rid need row = omega arith

pub delete_bytes : (txn under : ℕ) (rid : Rid) (need : ℕ) (old : List ℕ) → length (spelling (change_record txn under rid need (Row old) Vacant)) ≡ 23 + length old
delete_bytes txn under rid need old = omega arith

pub update_bytes : (txn under : ℕ) (rid : Rid) (need : ℕ) (old new : List ℕ) → length (spelling (change_record txn under rid need (Row old) (Row new))) ≡ 25 + length old + length new
update_bytes txn under rid need old new = omega (arith, length-append (row_bytes old) (row_bytes new))

-- what all owe after a begin
pub begin_owes : (m : Setting) (t : Tables) (s : Sessions) → Stands m t s → (k : ℕ) → k < length s.seats → (seat_at s.seats k).txn ≡ 0
    → owed_in (begun s k) ≡ owed_in s + TXN_BYTES
begin_owes m t s stands k known none =
    let seat : Seat = record { txn = s.next; saves = []; stage = idle } in
    let moves = owed_moves m t s stands k known s.history seat (s.next + 1) (λ j id apart has. refl) in
    let before : owed_by s.history (seat_at s.seats k) ≡ 0 = rw none refl in
    let after : owed_by s.history seat ≡ TXN_BYTES = by s.next (omega (arith, stands.first, stands.next)) (stands.kept.fresh s.next (omega arith)) in
    omega (arith, moves, before, after)
  where
    by : (next : ℕ) → 1 ≤ next → pending_of s.history next ≡ [] → owed_by s.history (record { txn = next; saves = []; stage = idle }) ≡ TXN_BYTES
    by next some fresh = grind (arith, nat_tests)

-- ---- rows in slots

pub some_len : (slot : Slot) (row : List ℕ) → Some row ≡ row_of slot → length row ≡ row_length slot
some_len Vacant row is = absurd cc
some_len (Row held) row is = cc

pub none_len : (slot : Slot) → None ≡ row_of slot → 0 ≡ row_length slot
none_len Vacant is = refl
none_len (Row held) is = absurd cc

-- the bytes of a change's record, beside those of what it leaves
pub alter_bytes : (txn under : ℕ) (rid : Rid) (need : ℕ) (old new : Slot) (before more : ℕ) → length_in old ≡ Some before → MatchOption (length_in new) (more ≡ 0) (λ len. more ≡ 2 + len)
    → length (spelling (change_record txn under rid need old new)) ≡ 23 + before + more
alter_bytes txn under rid need Vacant new before more held is = absurd cc
alter_bytes txn under rid need (Row old) Vacant before more held is = let same : length old ≡ before = cc in omega (arith, same, is, delete_bytes txn under rid need old)
alter_bytes txn under rid need (Row old) (Row new) before more held is = let same : length old ≡ before = cc in omega (arith, same, is, update_bytes txn under rid need old new)

pub length_is : (slot : Slot) (before : ℕ) → length_in slot ≡ Some before → row_length slot ≡ before
length_is Vacant before is = absurd cc
length_is (Row row) before is = cc

-- ---- the undo of the newest pending change

pub undo_fits_is : (history : History) (txn : ℕ) (found : PendingChange) (bytes others : ℕ) (slots : List Slot) (fits : Bool) → Some found ≡ newest_in (pending_of history txn)
    → IfSome (last_in (pending_of history txn)) (λ last. slots ≡ page_of history last.page)
    → ((held : Slot) → row_length held ≡ found.before → bytes ≡ used (set_slot slots found.rid.slot held)) → others ≡ others_need history txn found.rid.page
    → fits ≡ nat_le (bytes + others + found.need) CAPACITY → fits ≡ undo_fits history (pending_of history txn)
undo_fits_is history txn found bytes others slots fits = by (pending_of history txn) (last_is_of history txn)
  where
    by : (pending : List Change) → ((last : Change) (rest : List Change) → pending ≡ last ∷ rest → last.txn ≡ txn) → Some found ≡ newest_in pending
        → IfSome (last_in pending) (λ last. slots ≡ page_of history last.page) → ((held : Slot) → row_length held ≡ found.before → bytes ≡ used (set_slot slots found.rid.slot held))
        → others ≡ others_need history txn found.rid.page → fits ≡ nat_le (bytes + others + found.need) CAPACITY → fits ≡ undo_fits history pending
    by [] of_txn is page used_is others_is fits_is = absurd cc
    by (last ∷ rest) of_txn is page used_is others_is fits_is =
        let rid : found.rid ≡ last.rid = cc in
        let need : found.need ≡ last.need = cc in
        let length : row_length last.before ≡ found.before = cc in
        let mine : last.txn ≡ txn = of_txn last rest refl in
        fits_is ∙ rw (others_is, used_is last.before length, page, rid, need, ← mine) refl

-- ---- room in tables

pub entries_stay : {A E : Type 0} (old new : Reserved) (page txn : ℕ) (result : Result A E) → OnOk result (HasEntry new page txn)
    → OnOk result ((at by : ℕ) → IsOther at by page txn → HasEntry new at by ↔ HasEntry old at by) → OnErr result (new ≡ old) → (at by : ℕ) → HasEntry old at by → HasEntry new at by
entries_stay old new page txn (Err e) here others same at by has = subst (λ (r : Reserved). HasEntry r at by) (sym same) has
entries_stay old new page txn (Ok a) here others same at by has = elim (cases_eq at page) [
  | inl is ↦ elim (cases_eq by txn) [
    | inl too ↦ rw (is, too) here
    | inr differs ↦ (others at by (λ one two. differs two)).1 has
  ]
  | inr differs ↦ (others at by (λ one two. differs one)).1 has
]

pub stacks_stay : (old new : List StackValue) (k : ℕ) → SetsStack old new k (stack_at old k).changes → (j : ℕ) → (stack_at new j).changes ≡ (stack_at old j).changes
stacks_stay old new k sets j = elim (cases_eq j k) [ inl same ↦ rw same sets.here | inr other ↦ sets.others j other ]
