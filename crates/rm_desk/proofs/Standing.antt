-- The tables stand for the sessions after a move of one of them.
use Rattle.rm_desk.proofs.Names.{◌≡◌, ℕ, ◌+◌, ◌<◌, ◌≤◌, ◌⊎◌, ◌↔◌, option_map, inl, inr, if◌then◌else◌, List, [], ◌∷◌, map, length, slice_set, Option, Some}
use Rattle.rm_desk.proofs.Names.{None, IsSome, IfSome, refl, sym, ap, subst, ◌∙◌, arith, nat_tests, cases_eq, cases_lt, length-set, slice_index_or}
use Rattle.rm_desk.proofs.Names.{get_or-set_same, get_or-set_other, get_or_past, TxnId, MAX_SESSIONS, sum_below, sum_below-one, Change}
use Rattle.rm_desk.proofs.Names.{Finish, History, commits, ends, newest_lsn, need_of, need_for, on_page}
use Rattle.rm_desk.proofs.Names.{pending-commit, pending-commit_other, pending-end, pending-end_other, pending_of}
use Rattle.rm_desk.proofs.Names.{staged, TXN_BYTES, owes_at, owed_by, Seat, seat_at, empty_seat, idle, forces, Reserved, need_in, Setting, Op, Unbound}
use Rattle.rm_desk.proofs.Names.{HasEntry, Txn, Table, txn_of, owed_of, ChangesOnly, HasId, HaveOwnIds, after_commit, Stage, Idle, Forces, IsOfFile}
use Rattle.rm_desk.proofs.Names.{stage_with, Sessions, Tables, is_over, seat_from, pending_by, stage_at, goes, seated, begun, committed, ended, owed_in, IsOn, Accounts, Sits}
use Rattle.rm_desk.proofs.Names.{IsKept, StackValue, PendingChange, stack_at, SetsStack, noted_of}
use Rattle.rm_core.specs.Names as core
use Rattle.rm_txns.specs.Transactions.{begun as begun_txn}
use Rattle.rm_desk.specs.Desks.{Stands}
use Rattle.rm_desk.proofs.Keeping.{next_kept, commit_kept, end_kept}

owes_is : (stage : core.Stage) (bytes : ℕ) → owes_at stage bytes ≡ (if is_over stage then 0 else TXN_BYTES + bytes)
owes_is stage bytes = grind (arith, nat_tests)

-- what a transaction owes is what its seat owes
pub owed_is : (history : History) (stage : core.Stage) (txn : Option Txn) → Accounts history stage txn → owed_by history (seat_from txn stage) ≡ owed_of txn
owed_is history stage txn is = grind (arith, nat_tests)

-- ---- one session, where its changes are the same

accounts_same : (old new : History) (stage : core.Stage) (txn : Option Txn) → ((id : ℕ) → HasId txn id → pending_of new id ≡ pending_of old id)
    → Accounts old stage txn → Accounts new stage txn
accounts_same old new stage txn same is = grind (arith, nat_tests)

by_same : (old new : History) (txn : Option Txn) → ((id : ℕ) → HasId txn id → pending_of new id ≡ pending_of old id) → pending_by new txn ≡ pending_by old txn
by_same old new None same = refl
by_same old new (Some txn) same = same txn.id.0 refl

sits_same : (pages : ℕ) (old new : History) (seat : Seat) (stage : core.Stage) (txn : Option Txn) (stack : List PendingChange)
    → ((id : ℕ) → HasId txn id → pending_of new id ≡ pending_of old id) → Sits pages old seat stage txn stack → Sits pages new seat stage txn stack
sits_same pages old new seat stage txn stack same s = record {
  seat_is = s.seat_is;
  accounted = accounts_same old new stage txn same s.accounted;
  stacked = s.stacked ∙ ap (map noted_of) (sym (by_same old new txn same));
  of_file = s.of_file;
}

-- ---- a move of one session

-- the tables with one session at another stage
abbrev pub moved_to : Tables → Table → Reserved → List StackValue → ℕ → Stage → Tables
moved_to t table needs stacks k stage = record { table = table; needs = needs; stages = slice_set t.stages k stage; ops = t.ops; stacks = stacks }

-- the machine's stage, by the operation that the session has asked for
abbrev pub with_op : Tables → ℕ → Stage → core.Stage
with_op t k stage = stage_with (slice_index_or t.ops k Unbound) stage

-- one session has another transaction or stage, and maybe a record is logged
pub record Moved (m : Setting) (t : Tables) (s : Sessions) (k : ℕ) (table : Table) (left : Reserved) (stacks : List StackValue) (txn : Option Txn) (stage : core.Stage) (history : History) (next : ℕ) : Type 0 where
  pub only : ChangesOnly (record t.table { next = next }) table (k + 1) txn
  pub more : t.table.next ≤ next
  pub own : (id : ℕ) → HasId txn id → (1 ≤ id) × (id < next) × ((session : ℕ) → (session ≡ k + 1 → ⊥) → HasId (txn_of t.table session) id → ⊥)
  pub others : (j id : ℕ) → (j ≡ k → ⊥) → HasId (txn_of t.table (j + 1)) id → pending_of history id ≡ pending_of s.history id
  pub stacks_are : SetsStack t.stacks stacks k (map noted_of (pending_by history txn))
  pub accounted : Accounts history stage txn
  pub of_file : IsOfFile m.pages stage
  pub needed : (page id : ℕ) → need_in left page id ≡ need_of history id page
  pub there : (page id : ℕ) → IsOn (pending_of history id) page → HasEntry left page id
  pub kept : IsKept m.pages next history

own_ids : (old new : Table) (k next : ℕ) (txn : Option Txn) → HaveOwnIds old → ChangesOnly (record old { next = next }) new (k + 1) txn → old.next ≤ next
    → ((id : ℕ) → HasId txn id → (1 ≤ id) × (id < next) × ((session : ℕ) → (session ≡ k + 1 → ⊥) → HasId (txn_of old session) id → ⊥)) → HaveOwnIds new
own_ids old new k next txn ids only more own = record { given = given; apart = apart }
  where
    -- a session has the id that it had, or it is the one that has another
    had : (session id : ℕ) → HasId (txn_of new session) id → (session ≡ k + 1) × HasId txn id ⊎ ((session ≡ k + 1 → ⊥) × HasId (txn_of old session) id)
    had session id has = elim (cases_eq session (k + 1)) [
      | inl same ↦ inl (same, subst (λ (t : Option Txn). HasId t id) only.here (subst (λ (n : ℕ). HasId (txn_of new n) id) same has))
      | inr other ↦ inr (other, subst (λ (t : Option Txn). HasId t id) (only.others session other) has)
    ]

    given : (session id : ℕ) → HasId (txn_of new session) id → (1 ≤ id) × (id < new.next)
    given session id has = elim (had session id has) [
      | inl mine ↦ let is = own id mine.1 in (is.0, omega (arith, is.1, only.next))
      | inr other ↦ let is = ids.given session id other.1 in (is.0, omega (arith, is.1, more, only.next))
    ]

    apart : (a b id : ℕ) → HasId (txn_of new a) id → HasId (txn_of new b) id → a ≡ b
    apart a b id one two = elim (had a id one) [
      | inl mine ↦ elim (had b id two) [ inl too ↦ mine.0 ∙ sym too.0 | inr other ↦ absurd ((own id mine.1).2 b other.0 other.1) ]
      | inr other ↦ elim (had b id two) [ inl mine ↦ absurd ((own id mine.1).2 a other.0 other.1) | inr too ↦ ids.apart a b id other.1 too.1 ]
    ]

module _ (m : Setting) (t : Tables) (s : Sessions) (stands : Stands m t s) (k : ℕ) (known : k < length s.seats) where
  among : k < MAX_SESSIONS
  among = omega (arith, known, stands.sized)

  -- what all owe, where one session has another seat and the others what they had
  pub owed_moves : (history : History) (seat : Seat) (next : ℕ)
      → ((j id : ℕ) → (j ≡ k → ⊥) → HasId (txn_of t.table (j + 1)) id → pending_of history id ≡ pending_of s.history id)
      → owed_in (record { history = history; seats = slice_set s.seats k seat; next = next }) + owed_by s.history (seat_at s.seats k) ≡ owed_in s + owed_by history seat
  owed_moves history seat next others =
      let f = λ (j : ℕ). owed_by s.history (seat_at s.seats j) in
      let g = λ (j : ℕ). owed_by history (seat_at (slice_set s.seats k seat) j) in
      let sums : sum_below g (length s.seats) + f k ≡ sum_below f (length s.seats) + g k = sum_below-one f g k (length s.seats) same known in
      let here : seat_at (slice_set s.seats k seat) k ≡ seat = rw get_or-set_same refl in
      let all : owed_in (record { history = history; seats = slice_set s.seats k seat; next = next }) ≡ sum_below g (length s.seats) = ap (sum_below g) (length-set s.seats k seat) in
      omega (arith, sums, all, ap (owed_by history) here)
    where
      same : (j : ℕ) → (j ≡ k → ⊥) → owed_by history (seat_at (slice_set s.seats k seat) j) ≡ owed_by s.history (seat_at s.seats j)
      same j apart =
          let there : seat_at (slice_set s.seats k seat) j ≡ seat_at s.seats j = rw get_or-set_other refl in
          elim (cases_lt j MAX_SESSIONS) [
            | inl inside ↦
                let old = stands.sits j inside in
                let new = accounts_same s.history history (stage_at t j) (txn_of t.table (j + 1)) (λ id. others j id apart) old.accounted in
                ap (owed_by history) (there ∙ old.seat_is) ∙ owed_is history (stage_at t j) (txn_of t.table (j + 1)) new
                ∙ sym (ap (owed_by s.history) old.seat_is ∙ owed_is s.history (stage_at t j) (txn_of t.table (j + 1)) old.accounted)
            | inr past ↦
                let none : seat_at s.seats j ≡ empty_seat = get_or_past s.seats j empty_seat (omega (arith, past, stands.sized)) in
                rw (there, none) refl
          ]

  pub moved : (table : Table) (left : Reserved) (stacks : List StackValue) (txn : Option Txn) (stage : Stage) (history : History) (next : ℕ)
      → Moved m t s k table left stacks txn (with_op t k stage) history next
      → Stands m (moved_to t table left stacks k stage) (record { history = history; seats = slice_set s.seats k (seat_from txn (with_op t k stage)); next = next })
  moved table left stacks txn stage history next v = record {
    bounds = stands.bounds;
    sized = length-set s.seats k seat ∙ stands.sized;
    staged = (length-set t.stages k stage ∙ stands.staged.0, stands.staged.1);
    first = omega (arith, v.only.next, v.more, stands.first);
    ids = own_ids t.table table k next txn stands.ids v.only v.more v.own;
    next = v.only.next;
    sits = λ j inside. sits j inside (cases_eq j k);
    owes = omega (
      arith,
      v.only.owed,
      stands.owes,
      owed_moves history seat next v.others,
      ap (owed_by s.history) (stands.sits k among).seat_is ∙ owed_is s.history (stage_at t k) (txn_of t.table (k + 1)) (stands.sits k among).accounted,
      owed_is history (with_op t k stage) txn v.accounted,
    );
    needed = v.needed;
    there = v.there;
    kept = v.kept;
  }
    where
      after : Tables
      after = moved_to t table left stacks k stage

      seat : Seat
      seat = seat_from txn (with_op t k stage)

      stage_here : stage_at after k ≡ with_op t k stage
      stage_here = let lt : k < length t.stages = omega (arith, among, stands.staged.0) in rw get_or-set_same refl

      sits : (j : ℕ) → j < MAX_SESSIONS → (j ≡ k) ⊎ (j ≡ k → ⊥) → Sits m.pages history (seat_at (slice_set s.seats k seat) j) (stage_at after j) (txn_of table (j + 1)) (stack_at stacks j).changes
      sits j inside (inl same) = subst (λ (i : ℕ). Sits m.pages history (seat_at (slice_set s.seats k seat) i) (stage_at after i) (txn_of table (i + 1)) (stack_at stacks i).changes) (sym same)
          (rw (stage_here, v.only.here, v.stacks_are.here) (record { seat_is = rw get_or-set_same refl; accounted = v.accounted; stacked = refl; of_file = v.of_file }))
      sits j inside (inr apart) =
          let stage_there : stage_at after j ≡ stage_at t j = rw get_or-set_other refl in
          let seat_there : seat_at (slice_set s.seats k seat) j ≡ seat_at s.seats j = rw get_or-set_other refl in
          rw (stage_there, seat_there, v.only.others (j + 1) (λ same. apart (omega (arith, same))), v.stacks_are.others j apart)
          (sits_same m.pages s.history history (seat_at s.seats j) (stage_at t j) (txn_of t.table (j + 1)) (stack_at t.stacks j).changes (λ id. v.others j id apart) (stands.sits j inside))

  -- ---- what is read off

  abbrev its : Option Txn
  its = txn_of t.table (k + 1)

  abbrev at : core.Stage
  at = stage_at t k

  pub stage_is : (seat_at s.seats k).stage ≡ at
  stage_is = ap (λ (a : Seat). a.stage) (stands.sits k among).seat_is ∙ by its
    where
      by : (txn : Option Txn) → (seat_from txn at).stage ≡ at
      by txn = grind (arith, nat_tests)

  pub of_file : IsOfFile m.pages (seat_at s.seats k).stage
  of_file = rw stage_is (stands.sits k among).of_file

  -- the transaction of a session, by its number
  pub txn_is : (seat_at s.seats k).txn ≡ (seat_from its at).txn
  txn_is = ap (λ (a : Seat). a.txn) (stands.sits k among).seat_is

  -- a session that has a transaction has one in the table
  pub has_txn : ((seat_at s.seats k).txn ≡ 0 → ⊥) → IsSome its
  has_txn some = by its (λ none. some (txn_is ∙ none))
    where
      by : (txn : Option Txn) → ((seat_from txn at).txn ≡ 0 → ⊥) → IsSome txn
      by txn never = grind (arith, nat_tests)

  pub no_txn : (seat_at s.seats k).txn ≡ 0 → its ≡ None
  no_txn none = by its (sym txn_is ∙ none) (stands.sits k among).accounted
    where
      by : (txn : Option Txn) → (seat_from txn at).txn ≡ 0 → Accounts s.history at txn → txn ≡ None
      by txn none is = grind (arith, nat_tests)

  -- its id is its own
  pub record IsIdOf (id : ℕ) : Type 0 where
    pub is : (seat_at s.seats k).txn ≡ id
    pub has : HasId its id
    pub given : (1 ≤ id) × (id < s.next)
    pub apart : (session : ℕ) → (session ≡ k + 1 → ⊥) → HasId (txn_of t.table session) id → ⊥

  pub is_id : (id : ℕ) → HasId its id → IsIdOf id
  is_id id has = record {
    is = txn_is ∙ by its has;
    has = has;
    given = let is = stands.ids.given (k + 1) id has in (is.0, omega (arith, is.1, stands.next));
    apart = λ session other too. other (stands.ids.apart session (k + 1) id too has);
  }
    where
      by : (txn : Option Txn) → HasId txn id → (seat_from txn at).txn ≡ id
      by txn has = grind (arith, nat_tests)

  pub id_is : ((seat_at s.seats k).txn ≡ 0 → ⊥) → (id : TxnId) → IfSome its (λ txn. id ≡ txn.id) → IsIdOf id.0
  id_is some id is = is_id id.0 (by its (has_txn some) is)
    where
      by : (txn : Option Txn) → IsSome txn → IfSome txn (λ txn. id ≡ txn.id) → HasId txn id.0
      by txn some is = grind (arith, nat_tests)

  pub own_of : ((seat_at s.seats k).txn ≡ 0 → ⊥) → IsIdOf (seat_at s.seats k).txn
  own_of some = is_id (seat_at s.seats k).txn (rw txn_is (by its (has_txn some)))
    where
      by : (txn : Option Txn) → IsSome txn → HasId txn (seat_from txn at).txn
      by txn some = grind (arith, nat_tests)

  pub elsewhere : (id : ℕ) → IsIdOf id → (j other : ℕ) → (j ≡ k → ⊥) → HasId (txn_of t.table (j + 1)) other → id ≡ other → ⊥
  elsewhere id own j other apart has same =
      own.apart (j + 1) (λ is. apart (omega (arith, is))) (subst (HasId (txn_of t.table (j + 1))) (sym same) has)

  -- the changes that are pending, as they are kept
  pub pending_is : ((seat_at s.seats k).txn ≡ 0 → ⊥) → (stack_at t.stacks k).changes ≡ map noted_of (pending_of s.history (seat_at s.seats k).txn)
  pending_is some = (stands.sits k among).stacked ∙ ap (map noted_of) (by its (has_txn some) ∙ ap (pending_of s.history) (sym txn_is))
    where
      by : (txn : Option Txn) → IsSome txn → pending_by s.history txn ≡ pending_of s.history (seat_from txn at).txn
      by txn some = grind (arith, nat_tests)

  -- ---- the same transaction, or none

  -- another transaction with the id of the session's
  pub own_id : (txn : Option Txn) → ((id : ℕ) → HasId txn id → HasId its id) → (id : ℕ) → HasId txn id
      → (1 ≤ id) × (id < s.next) × ((session : ℕ) → (session ≡ k + 1 → ⊥) → HasId (txn_of t.table session) id → ⊥)
  own_id txn same id has = let own = is_id id (same id has) in (own.given.0, own.given.1, own.apart)

  pub only_now : (table : Table) (txn : Option Txn) → ChangesOnly t.table table (k + 1) txn → ChangesOnly (record t.table { next = s.next }) table (k + 1) txn
  only_now table txn only = record { here = only.here; others = only.others; owed = only.owed; next = only.next ∙ stands.next }

  staged_is : (txn : Option Txn) (before after : core.Stage) → staged (seat_from txn before) after ≡ seat_from txn after
  staged_is txn before after = grind (arith, nat_tests)

  pub seat_now : (stage : core.Stage) → staged (seat_at s.seats k) stage ≡ seat_from its stage
  seat_now stage = ap (λ (a : Seat). staged a stage) (stands.sits k among).seat_is ∙ staged_is its at stage

  -- a stage alone, and maybe a record that changes nothing of what is pending
  pub stays_keep : (stage : Stage) → (((seat_at s.seats k).txn ≡ 0 → ⊥) → is_over (with_op t k stage) ≡ is_over (seat_at s.seats k).stage)
      → IsOfFile m.pages (with_op t k stage) → (history : History) → ((id : ℕ) → pending_of history id ≡ pending_of s.history id) → IsKept m.pages s.next history
      → Stands m (moved_to t t.table t.needs t.stacks k stage) (record (goes s k (with_op t k stage)) { history = history })
  stays_keep stage over inside history same kept =
      rw (seat_now (with_op t k stage)) (moved t.table t.needs t.stacks its stage history s.next (record {
        only = record { here = refl; others = λ other apart. refl; owed = refl; next = stands.next };
        more = omega (arith, stands.next);
        own = own_id its (λ id has. has);
        others = λ j id apart has. same id;
        stacks_are = record { here = (stands.sits k among).stacked ∙ ap (map noted_of) (sym (by_same s.history history its (λ id has. same id))); others = λ j apart. refl };
        accounted = accounts_same s.history history (with_op t k stage) its (λ id has. same id) (by its (λ some. over some ∙ ap is_over stage_is) txn_is (stands.sits k among).accounted);
        of_file = inside;
        needed = λ page id. stands.needed page id ∙ sym (ap (λ (l : List Change). need_for (on_page page l)) (same id));
        there = λ page id on. stands.there page id (subst (λ (l : List Change). IsOn l page) (same id) on);
        kept = kept;
      }))
    where
      by : (txn : Option Txn) → (((seat_at s.seats k).txn ≡ 0 → ⊥) → is_over (with_op t k stage) ≡ is_over at) → (seat_at s.seats k).txn ≡ (seat_from txn at).txn
          → Accounts s.history at txn → Accounts s.history (with_op t k stage) txn
      by None over is accounted = tt
      by (Some txn) over is accounted =
          let same : is_over (with_op t k stage) ≡ is_over at = over (λ none. absurd (omega (arith, none, is, accounted.some))) in
          record { some = accounted.some; undo = accounted.undo; owed = rw same accounted.owed; over = accounted.over ∙ sym same }

  -- another operation, where none is under way
  pub asks_keep : (op : Op) → (seat_at s.seats k).stage ≡ idle → Stands m (record t { ops = slice_set t.ops k op }) s
  asks_keep op free = record {
    bounds = stands.bounds;
    sized = stands.sized;
    staged = (stands.staged.0, length-set t.ops k op ∙ stands.staged.1);
    first = stands.first;
    ids = stands.ids;
    next = stands.next;
    sits = λ j inside. rw (same j (cases_eq j k)) (stands.sits j inside);
    owes = stands.owes;
    needed = stands.needed;
    there = stands.there;
    kept = stands.kept;
  }
    where
      idles : (stage : Stage) (before : Op) → stage_with before stage ≡ idle → stage_with op stage ≡ stage_with before stage
      idles Idle before is = refl
      idles other before is = absurd cc

      same : (j : ℕ) → (j ≡ k) ⊎ (j ≡ k → ⊥) → stage_at (record t { ops = slice_set t.ops k op }) j ≡ stage_at t j
      same j (inl here) =
          let lt : k < length t.ops = omega (arith, among, stands.staged.1) in
          subst (λ (i : ℕ). stage_at (record t { ops = slice_set t.ops k op }) i ≡ stage_at t i) (sym here)
          (rw get_or-set_same (idles (slice_index_or t.stages k Idle) (slice_index_or t.ops k Unbound) (sym stage_is ∙ free)))
      same j (inr apart) = rw get_or-set_other refl

  -- another transaction that is accounted for, or none
  pub sits_keep : (table : Table) (stacks : List StackValue) (txn : Option Txn) (stage : Stage) → ((id : ℕ) → HasId txn id → HasId its id)
      → ChangesOnly t.table table (k + 1) txn → SetsStack t.stacks stacks k (map noted_of (pending_by s.history txn)) → Accounts s.history (with_op t k stage) txn
      → IsOfFile m.pages (with_op t k stage)
      → Stands m (moved_to t table t.needs stacks k stage) (seated s k (seat_from txn (with_op t k stage)))
  sits_keep table stacks txn stage same only stacked accounted inside = moved table t.needs stacks txn stage s.history s.next (record {
    only = only_now table txn only;
    more = omega (arith, stands.next);
    own = own_id txn same;
    others = λ j id apart has. refl;
    stacks_are = stacked;
    accounted = accounted;
    of_file = inside;
    needed = stands.needed;
    there = stands.there;
    kept = stands.kept;
  })

  pub leaves_keep : (table : Table) (stacks : List StackValue) → ChangesOnly t.table table (k + 1) None → SetsStack t.stacks stacks k []
      → Stands m (moved_to t table t.needs stacks k Idle) (seated s k empty_seat)
  leaves_keep table stacks only stacked = sits_keep table stacks None Idle (λ id never. absurd never) only stacked tt tt

  pub begins_keep : (table : Table) (id : TxnId) → (seat_at s.seats k).txn ≡ 0 → id.0 ≡ t.table.next → ChangesOnly (record t.table { next = t.table.next + 1 }) table (k + 1) (Some (begun_txn id))
      → Stands m (moved_to t table t.needs t.stacks k Idle) (begun s k)
  begins_keep table id none is only =
      let id_is : id.0 ≡ s.next = is ∙ stands.next in
      let fresh : pending_of s.history id.0 ≡ [] = stands.kept.fresh id.0 (omega (arith, id_is)) in
      let stacked : (stack_at t.stacks k).changes ≡ map noted_of (pending_of s.history id.0) =
      (stands.sits k among).stacked ∙ ap (λ (txn : Option Txn). map noted_of (pending_by s.history txn)) (no_txn none) ∙ ap (map noted_of) (sym fresh) in
      let v = moved table t.needs t.stacks (Some (begun_txn id)) Idle s.history (t.table.next + 1) (record {
        only = only;
        more = omega arith;
        own = λ mine has. (omega (arith, is, stands.first, has), omega (arith, is, has), λ session other had. absurd (let g = stands.ids.given session mine had in omega (arith, g.1, is, has)));
        others = λ j other apart has. refl;
        stacks_are = record { here = stacked; others = λ j apart. refl };
        accounted = record { some = omega (arith, is, stands.first); undo = rw fresh refl; owed = rw fresh refl; over = refl };
        of_file = tt;
        needed = stands.needed;
        there = stands.there;
        kept = rw stands.next (next_kept m.pages s.next s.history stands.kept);
      }) in
      rw (id_is, stands.next) at v

  -- ---- a transaction is over: its commit or end record is logged

  -- the needs without its own
  pub record Released (left : Reserved) (id : ℕ) : Type 0 where
    pub gone : (page : ℕ) → need_in left page id ≡ 0
    pub other_needs : (page other : ℕ) → (other ≡ id → ⊥) → need_in left page other ≡ need_in t.needs page other
    pub other_entries : (page other : ℕ) → (other ≡ id → ⊥) → HasEntry left page other ↔ HasEntry t.needs page other

  closed : (table : Table) (left : Reserved) (stacks : List StackValue) (id : ℕ) → IsIdOf id → (history : History) → pending_of history id ≡ []
      → ((other : ℕ) → (id ≡ other → ⊥) → pending_of history other ≡ pending_of s.history other) → IsKept m.pages s.next history → Released left id
      → (txn : Option Txn) (stage : Stage) → ((other : ℕ) → HasId txn other → HasId its other) → ChangesOnly t.table table (k + 1) txn → SetsStack t.stacks stacks k [] → pending_by history txn ≡ []
      → Accounts history (with_op t k stage) txn → IsOfFile m.pages (with_op t k stage)
      → Stands m (moved_to t table left stacks k stage) (record { history = history; seats = slice_set s.seats k (seat_from txn (with_op t k stage)); next = s.next })
  closed table left stacks id own history none others kept c txn stage same only stacked empty accounted inside = moved table left stacks txn stage history s.next (record {
    only = only_now table txn only;
    more = omega (arith, stands.next);
    own = own_id txn same;
    others = λ j other apart has. others other (elsewhere id own j other apart has);
    stacks_are = rw empty stacked;
    accounted = accounted;
    of_file = inside;
    needed = λ page other. grind (arith, nat_tests, c, none, others, stands.needed);
    there = λ page other on. elim (cases_eq other id) [
      | inl is ↦ absurd (subst (λ (l : List Change). IsOn l page) (ap (pending_of history) is ∙ none) on)
      | inr differs ↦ (c.other_entries page other differs).1 (stands.there page other (subst (λ (l : List Change). IsOn l page) (others other (λ is. differs (sym is))) on))
    ];
    kept = kept;
  })

  pub ends_keep : (table : Table) (left : Reserved) (stacks : List StackValue) (id lsn : ℕ) → IsIdOf id → newest_lsn s.history < lsn → Released left id
      → ChangesOnly t.table table (k + 1) None → SetsStack t.stacks stacks k [] → Stands m (moved_to t table left stacks k Idle) (ended s k lsn)
  ends_keep table left stacks id lsn own above c only stacked =
      rw own.is
      (closed table left stacks id own (ends f ∷ s.history) (pending-end f s.history) (pending-end_other f s.history) (end_kept m.pages s.next s.history f own.given.1 above stands.kept)
      c None Idle (λ other never. absurd never) only stacked refl tt tt)
    where
      f : Finish
      f = record { lsn = lsn; txn = id }

  pub commits_keep : (table : Table) (left : Reserved) (stacks : List StackValue) (id lsn : ℕ) → IsIdOf id → newest_lsn s.history < lsn → Released left id
      → ChangesOnly t.table table (k + 1) (option_map after_commit its) → SetsStack t.stacks stacks k [] → Stands m (moved_to t table left stacks k Forces) (committed s k lsn)
  commits_keep table left stacks id lsn own above c only stacked =
      rw (seat_now forces ∙ seat_is its, own.is)
      (closed table left stacks id own (commits f ∷ s.history) (pending-commit f s.history) (pending-commit_other f s.history) (commit_kept m.pages s.next s.history f own.given.1 above stands.kept)
      c (option_map after_commit its) Forces (same its) only stacked (empty its own.has) (by its own.has (stands.sits k among).accounted) tt)
    where
      f : Finish
      f = record { lsn = lsn; txn = id }

      seat_is : (txn : Option Txn) → seat_from txn forces ≡ seat_from (option_map after_commit txn) forces
      seat_is txn = grind (arith, nat_tests)

      same : (txn : Option Txn) (other : ℕ) → HasId (option_map after_commit txn) other → HasId txn other
      same txn other has = grind (arith, nat_tests)

      empty : (txn : Option Txn) → HasId txn id → pending_by (commits f ∷ s.history) (option_map after_commit txn) ≡ []
      empty txn has = grind (arith, nat_tests, pending-commit)

      by : (txn : Option Txn) → HasId txn id → Accounts s.history at txn → Accounts (commits f ∷ s.history) forces (option_map after_commit txn)
      by txn has accounted = grind (arith, nat_tests, pending-commit)

  -- ---- room in tables alone

  pub room_keeps : (left : Reserved) (stacks : List StackValue) → ((page txn : ℕ) → need_in left page txn ≡ need_in t.needs page txn)
      → ((page txn : ℕ) → HasEntry t.needs page txn → HasEntry left page txn) → ((j : ℕ) → (stack_at stacks j).changes ≡ (stack_at t.stacks j).changes)
      → Stands m (record t { needs = left; stacks = stacks }) s
  room_keeps left stacks needs entries same = record {
    bounds = stands.bounds;
    sized = stands.sized;
    staged = stands.staged;
    first = stands.first;
    ids = stands.ids;
    next = stands.next;
    sits = λ j inside. rw (same j) (stands.sits j inside);
    owes = stands.owes;
    needed = λ page txn. needs page txn ∙ stands.needed page txn;
    there = λ page txn on. entries page txn (stands.there page txn on);
    kept = stands.kept;
  }
