-- What holds of every step and of every run of a session.
use Rattle.std.proofs.Common.{◌≡◌, ℕ, zero, suc, ◌+◌, ◌≤◌, ◌<◌, true, false, List, [], ◌∷◌, ◌++◌, length, Option, Some, None, ◌⊎◌, inl, inr, refl, sym, ap, ◌∙◌, subst, arith, length-set}
use Rattle.std.proofs.lemmas.Bool.{cases_lt, cases_eq, cases_order, cases_Bool, true≢false}
use Rattle.rm_types.specs.declared.numbers.Rid.{Rid}
use Rattle.rm_types.specs.declared.numbers.TheConstants.{MAX_SLOT}
use Rattle.rm_types.specs.declared.slots.Slot.{Slot}
use Rattle.rm_types.specs.declared.slots.Slot.TheVariants.{Row}
use Rattle.rm_types.specs.declared.slots.TheConstants.{CAPACITY, SLOT_ENTRY}
use Rattle.rm_plain.specs.declared.lines.Line.{Line}
use Rattle.rm_types.specs.declared.operations.Op.{Op}
use Rattle.rm_types.specs.declared.operations.Op.TheVariants as op
use Rattle.rm_types.specs.declared.operations.Reply.{Reply}
use Rattle.rm_types.specs.declared.operations.Reply.TheVariants as reply
use Rattle.rm_plain.specs.Lines.{op_of}
use Rattle.rm_model.specs.Pages.{used, set_slot}
use Rattle.rm_model.specs.Object.{Rows, IsOutside}
use Rattle.rm_model.specs.Files.{page_at, rows_of, set_row}
use Rattle.rm_session.specs.Session.{HasRoom, LacksRoom, IsFirstWithRoom, Core, IsPlaceFor, IsInside, Comes, names_after, State, Step, Run, MayDraw}
use Rattle.rm_model.proofs.FileLaws.{rows_of-set_row, no_row_past}
use Rattle.rm_session.specs.Laws.{EveryScriptRuns, RunsAreOne}

-- one page alone is the first with room
pub first_with_room_once : (pages : List (List Slot)) (len page other : ℕ) → IsFirstWithRoom pages len page → IsFirstWithRoom pages len other → page ≡ other
first_with_room_once pages len page other first second =
    elim (cases_order page other) [
      | inl same ↦ same
      | inr (inl below) ↦ absurd (omega (arith, second.first page below, first.room))
      | inr (inr above) ↦ absurd (omega (arith, first.first other above, second.room))
    ]

-- of the pages below a number the first has room, or each of them lacks it
room_below : (pages : List (List Slot)) (len bound : ℕ) → bound ≤ length pages → ((page : ℕ) × IsFirstWithRoom pages len page) ⊎ ((page : ℕ) → page < bound → LacksRoom (page_at pages page) len)
room_below pages len zero fits = inr (λ page below. absurd (omega arith))
room_below pages len (suc bound) fits =
    elim (room_below pages len bound (omega arith)) [
      | inl first ↦ inl first
      | inr lacking ↦ elim (cases_lt CAPACITY (used (page_at pages bound) + SLOT_ENTRY + len)) [
        | inl lacks ↦ inr (λ page below. elim (cases_eq page bound) [
          | inl same ↦ rw same lacks
          | inr other ↦ lacking page (omega arith)
        ])
        | inr room ↦ inl (bound, record { in_file = omega arith; room = room; first = lacking })
      ]
    ]

pub room_or_none : (pages : List (List Slot)) (len : ℕ) → ((page : ℕ) × IsFirstWithRoom pages len page) ⊎ ((page : ℕ) → page < length pages → LacksRoom (page_at pages page) len)
room_or_none pages len = room_below pages len (length pages) (omega arith)

-- what an operation may draw, and the core after it
abbrev Draws : Core → Op → Type 0
Draws old asked = (told : Reply) × (new : Core) × MayDraw (length old.pages) (rows_of old.pages) asked told (rows_of new.pages) × Comes old asked told new

begin_draws : (old : Core) → Draws old op.Begin
begin_draws old =
    elim (cases_Bool old.active) [
      | inl active ↦ (reply.Skipped, old, refl, (active, refl))
      | inr idle ↦ (reply.Began (record { 0 = old.next }), record old { next = old.next + 1; active = true }, refl, (idle, refl, refl))
    ]

commit_draws : (old : Core) → Draws old op.Commit
commit_draws old =
    elim (cases_Bool old.active) [
      | inl active ↦ (reply.Committed, record old { active = false }, refl, (active, refl))
      | inr idle ↦ (reply.Skipped, old, refl, (idle, refl))
    ]

insert_draws : (old : Core) (row : List ℕ) → Draws old (op.Insert row)
insert_draws old row =
    elim (cases_Bool old.active) [
      | inl active ↦ elim (room_or_none old.pages (length row)) [
        | inl first ↦
            let rid : Rid = record { page = first.0; slot = length (page_at old.pages first.0) } in
            (reply.Inserted rid, record old { pages = set_row old.pages rid row }, (no_row_past old.pages rid refl, rows_of-set_row old.pages rid row first.1.in_file), (active, (first.1, refl), refl))
        | inr lacking ↦ (reply.NoSpace, old, refl, (active, lacking, refl))
      ]
      | inr idle ↦ (reply.Skipped, old, refl, (idle, refl))
    ]

row_draws : (old : Core) (rid : Rid) (found : Option (List ℕ)) → rows_of old.pages rid ≡ found → old.active ≡ true → IsInside (length old.pages) rid → Draws old (op.Read rid)
row_draws old rid None is active inside = (reply.NoRow, old, (is, refl), (active, inside, refl))
row_draws old rid (Some row) is active inside = (reply.Row row, old, (is, refl), (active, inside, refl))

read_draws : (old : Core) (rid : Rid) → Draws old (op.Read rid)
read_draws old rid =
    elim (cases_Bool old.active) [
      | inl active ↦ elim (cases_lt rid.page (length old.pages)) [
        | inl in_file ↦ elim (cases_lt MAX_SLOT rid.slot) [
          | inl above ↦ (reply.BadRid, old, (inr above, refl), (active, inr above, refl))
          | inr within ↦ row_draws old rid (rows_of old.pages rid) refl active (in_file, within)
        ]
        | inr past ↦ (reply.BadRid, old, (inl past, refl), (active, inl past, refl))
      ]
      | inr idle ↦ (reply.Skipped, old, refl, (idle, refl))
    ]

-- every operation draws a reply
pub draws : (old : Core) (asked : Op) → Draws old asked
draws old op.Begin = begin_draws old
draws old (op.Insert row) = insert_draws old row
draws old (op.Read rid) = read_draws old rid
draws old op.Commit = commit_draws old
draws old op.Unbound = (reply.Unbound, old, refl, refl)

-- and so does every line
pub steps : (old : State) (said : Line) → (told : Reply) × (new : State) × Step old said told new
steps old said =
    let drawn : Draws old.core (op_of said old.names) = draws old.core (op_of said old.names) in
    (drawn.0, record { core = drawn.1; names = names_after said drawn.0 old.names }, record { object = drawn.2; comes = drawn.3; names = refl })

pub every_script_runs : EveryScriptRuns
every_script_runs old [] = ([], old, refl)
every_script_runs old (said ∷ lines) =
    let first : (told : Reply) × (new : State) × Step old said told new = steps old said in
    let rest : (replies : List Reply) × (new : State) × Run first.1 lines replies new = every_script_runs first.1 lines in
    (first.0 ∷ rest.0, rest.1, (first.1, first.2, rest.2))

-- One operation draws one reply, and leaves one core.
abbrev IsOne : Core → Op → Type 0
IsOne old asked = (told other : Reply) (new newer : Core) → Comes old asked told new → Comes old asked other newer → (told ≡ other) × (new ≡ newer)

begin_once : (old : Core) → IsOne old op.Begin
begin_once old reply.Skipped reply.Skipped new newer a b = (refl, a.1 ∙ sym b.1)
begin_once old (reply.Began id) (reply.Began ie) new newer a b =
    let same : id.0 ≡ ie.0 = a.1 ∙ sym b.1 in
    let one : id ≡ ie = λ i. record { 0 = same i } in
    (ap reply.Began one, a.2 ∙ sym b.2)
begin_once old reply.Skipped (reply.Began ie) new newer a b = absurd (true≢false (sym a.0 ∙ b.0))
begin_once old (reply.Began id) reply.Skipped new newer a b = absurd (true≢false (sym b.0 ∙ a.0))
begin_once old reply.Skipped other new newer a b = absurd b
begin_once old (reply.Began id) other new newer a b = absurd b
begin_once old told other new newer a b = absurd a

commit_once : (old : Core) → IsOne old op.Commit
commit_once old reply.Skipped reply.Skipped new newer a b = (refl, a.1 ∙ sym b.1)
commit_once old reply.Committed reply.Committed new newer a b = (refl, a.1 ∙ sym b.1)
commit_once old reply.Committed reply.Skipped new newer a b = absurd (true≢false (sym a.0 ∙ b.0))
commit_once old reply.Skipped reply.Committed new newer a b = absurd (true≢false (sym b.0 ∙ a.0))
commit_once old reply.Skipped other new newer a b = absurd b
commit_once old reply.Committed other new newer a b = absurd b
commit_once old told other new newer a b = absurd a

-- the place of an insert is one
place_once : (pages : List (List Slot)) (len : ℕ) (rid other : Rid) → IsPlaceFor pages len rid → IsPlaceFor pages len other → rid ≡ other
place_once pages len rid other first second =
    let page : rid.page ≡ other.page = first_with_room_once pages len rid.page other.page first.0 second.0 in
    let slot : rid.slot ≡ other.slot = first.1 ∙ (ap (λ (number : ℕ). length (page_at pages number)) page ∙ sym second.1) in
    λ i. record { page = page i; slot = slot i }

insert_once : (old : Core) (row : List ℕ) → IsOne old (op.Insert row)
insert_once old row reply.Skipped reply.Skipped new newer a b = (refl, a.1 ∙ sym b.1)
insert_once old row (reply.Inserted rid) (reply.Inserted other) new newer a b =
    let same : rid ≡ other = place_once old.pages (length row) rid other a.1 b.1 in
    (ap reply.Inserted same, a.2 ∙ (ap (λ (place : Rid). record old { pages = set_row old.pages place row }) same ∙ sym b.2))
insert_once old row reply.NoSpace reply.NoSpace new newer a b = (refl, a.2 ∙ sym b.2)
insert_once old row (reply.Inserted rid) reply.NoSpace new newer a b =
    let lacks : LacksRoom (page_at old.pages rid.page) (length row) = b.1 rid.page a.1.0.in_file in
    let room : HasRoom (page_at old.pages rid.page) (length row) = a.1.0.room in
    absurd (omega arith)
insert_once old row reply.NoSpace (reply.Inserted rid) new newer a b =
    let lacks : LacksRoom (page_at old.pages rid.page) (length row) = a.1 rid.page b.1.0.in_file in
    let room : HasRoom (page_at old.pages rid.page) (length row) = b.1.0.room in
    absurd (omega arith)
insert_once old row reply.Skipped (reply.Inserted rid) new newer a b = absurd (true≢false (sym b.0 ∙ a.0))
insert_once old row reply.Skipped reply.NoSpace new newer a b = absurd (true≢false (sym b.0 ∙ a.0))
insert_once old row (reply.Inserted rid) reply.Skipped new newer a b = absurd (true≢false (sym a.0 ∙ b.0))
insert_once old row reply.NoSpace reply.Skipped new newer a b = absurd (true≢false (sym a.0 ∙ b.0))
insert_once old row reply.Skipped other new newer a b = absurd b
insert_once old row (reply.Inserted rid) other new newer a b = absurd b
insert_once old row reply.NoSpace other new newer a b = absurd b
insert_once old row told other new newer a b = absurd a

-- a place is inside the file or outside it
not_both : (pages : ℕ) (rid : Rid) → IsInside pages rid → IsOutside pages rid → ⊥
not_both pages rid inside (inl past) = omega arith
not_both pages rid inside (inr above) = omega arith

-- The reply to a read also depends on the row that stands there.
read_once : (old : Core) (rid : Rid) (rows later : Rows) (told other : Reply) (new newer : Core) → MayDraw (length old.pages) (rows_of old.pages) (op.Read rid) told rows → MayDraw (length old.pages) (rows_of old.pages) (op.Read rid) other later → Comes old (op.Read rid) told new → Comes old (op.Read rid) other newer → (told ≡ other) × (new ≡ newer)
read_once old rid rows later reply.Skipped reply.Skipped new newer p q a b = (refl, a.1 ∙ sym b.1)
read_once old rid rows later reply.BadRid reply.BadRid new newer p q a b = (refl, a.2 ∙ sym b.2)
read_once old rid rows later reply.NoRow reply.NoRow new newer p q a b = (refl, a.2 ∙ sym b.2)
read_once old rid rows later (reply.Row row) (reply.Row other) new newer p q a b =
    let same : Some row ≡ Some other = sym p.0 ∙ q.0 in
    (cc, a.2 ∙ sym b.2)
read_once old rid rows later (reply.Row row) reply.NoRow new newer p q a b =
    let same : Some row ≡ None = sym p.0 ∙ q.0 in
    absurd (cc)
read_once old rid rows later reply.NoRow (reply.Row row) new newer p q a b =
    let same : Some row ≡ None = sym q.0 ∙ p.0 in
    absurd (cc)
read_once old rid rows later (reply.Row row) reply.BadRid new newer p q a b = absurd (not_both (length old.pages) rid a.1 b.1)
read_once old rid rows later reply.NoRow reply.BadRid new newer p q a b = absurd (not_both (length old.pages) rid a.1 b.1)
read_once old rid rows later reply.BadRid (reply.Row row) new newer p q a b = absurd (not_both (length old.pages) rid b.1 a.1)
read_once old rid rows later reply.BadRid reply.NoRow new newer p q a b = absurd (not_both (length old.pages) rid b.1 a.1)
read_once old rid rows later reply.Skipped (reply.Row row) new newer p q a b = absurd (true≢false (sym b.0 ∙ a.0))
read_once old rid rows later reply.Skipped reply.NoRow new newer p q a b = absurd (true≢false (sym b.0 ∙ a.0))
read_once old rid rows later reply.Skipped reply.BadRid new newer p q a b = absurd (true≢false (sym b.0 ∙ a.0))
read_once old rid rows later (reply.Row row) reply.Skipped new newer p q a b = absurd (true≢false (sym a.0 ∙ b.0))
read_once old rid rows later reply.NoRow reply.Skipped new newer p q a b = absurd (true≢false (sym a.0 ∙ b.0))
read_once old rid rows later reply.BadRid reply.Skipped new newer p q a b = absurd (true≢false (sym a.0 ∙ b.0))
read_once old rid rows later reply.Skipped other new newer p q a b = absurd b
read_once old rid rows later (reply.Row row) other new newer p q a b = absurd b
read_once old rid rows later reply.NoRow other new newer p q a b = absurd b
read_once old rid rows later reply.BadRid other new newer p q a b = absurd b
read_once old rid rows later told other new newer p q a b = absurd a

unbound_once : (old : Core) → IsOne old op.Unbound
unbound_once old reply.Unbound reply.Unbound new newer a b = (refl, a ∙ sym b)
unbound_once old reply.Unbound other new newer a b = absurd b
unbound_once old told other new newer a b = absurd a

pub draws_once : (old : Core) (asked : Op) (rows later : Rows) (told other : Reply) (new newer : Core) → MayDraw (length old.pages) (rows_of old.pages) asked told rows → MayDraw (length old.pages) (rows_of old.pages) asked other later → Comes old asked told new → Comes old asked other newer → (told ≡ other) × (new ≡ newer)
draws_once old op.Begin rows later told other new newer p q a b = begin_once old told other new newer a b
draws_once old (op.Insert row) rows later told other new newer p q a b = insert_once old row told other new newer a b
draws_once old (op.Read rid) rows later told other new newer p q a b = read_once old rid rows later told other new newer p q a b
draws_once old op.Commit rows later told other new newer p q a b = commit_once old told other new newer a b
draws_once old op.Unbound rows later told other new newer p q a b = unbound_once old told other new newer a b

-- and so does a line
pub step_once : (old : State) (said : Line) (told other : Reply) (new newer : State) → Step old said told new → Step old said other newer → (told ≡ other) × (new ≡ newer)
step_once old said told other new newer a b =
    let drawn : (told ≡ other) × (new.core ≡ newer.core) = draws_once old.core (op_of said old.names) (rows_of new.core.pages) (rows_of newer.core.pages) told other new.core newer.core a.object b.object a.comes b.comes in
    let names : new.names ≡ newer.names = a.names ∙ (ap (λ (answer : Reply). names_after said answer old.names) drawn.0 ∙ sym b.names) in
    (drawn.0, λ i. record { core = drawn.1 i; names = names i })

pub a_script_has_one_run : RunsAreOne
a_script_has_one_run [] old new other [] [] a b = (refl, a ∙ sym b)
a_script_has_one_run [] old new other (told ∷ replies) others a b = absurd a
a_script_has_one_run [] old new other [] (told ∷ others) a b = absurd b
a_script_has_one_run (said ∷ lines) old new other [] others a b = absurd a
a_script_has_one_run (said ∷ lines) old new other (told ∷ replies) [] a b = absurd b
a_script_has_one_run (said ∷ lines) old new other (told ∷ replies) (told' ∷ others) a b =
    let first : (told ≡ told') × (a.0 ≡ b.0) = step_once old said told told' a.0 b.0 a.1 b.1 in
    let moved : Run a.0 lines others other = subst (λ (mid : State). Run mid lines others other) (sym first.1) b.2 in
    let rest : (replies ≡ others) × (new ≡ other) = a_script_has_one_run lines a.0 new other replies others a.2 moved in
    (cc, rest.1)

-- A run goes on by one line.
pub run_goes_on : (old mid new : State) (lines : List Line) (replies : List Reply) (said : Line) (told : Reply) → Run old lines replies mid → Step mid said told new → Run old (lines ++ said ∷ []) (replies ++ told ∷ []) new
run_goes_on old mid new [] [] said told ran step = (new, subst (λ (start : State). Step start said told new) ran step, refl)
run_goes_on old mid new (first ∷ lines) (answer ∷ replies) said told ran step =
    (ran.0, ran.1, run_goes_on ran.0 mid new lines replies said told ran.2 step)
run_goes_on old mid new [] (answer ∷ replies) said told ran step = absurd ran
run_goes_on old mid new (first ∷ lines) [] said told ran step = absurd ran

-- Two runs, one after the other, are one.
pub runs_join : (old mid new : State) (lines more : List Line) (replies others : List Reply) → Run old lines replies mid → Run mid more others new → Run old (lines ++ more) (replies ++ others) new
runs_join old mid new [] more [] others ran after = subst (λ (start : State). Run start more others new) ran after
runs_join old mid new (first ∷ lines) more (answer ∷ replies) others ran after =
    (ran.0, ran.1, runs_join ran.0 mid new lines more replies others ran.2 after)
runs_join old mid new [] more (answer ∷ replies) others ran after = absurd ran
runs_join old mid new (first ∷ lines) more [] others ran after = absurd ran

-- as many replies are drawn as there are lines
pub replies_are_as_many : (old new : State) (lines : List Line) (replies : List Reply) → Run old lines replies new → length replies ≡ length lines
replies_are_as_many old new [] [] ran = refl
replies_are_as_many old new (said ∷ lines) (told ∷ replies) ran = ap suc (replies_are_as_many ran.0 new lines replies ran.2)
replies_are_as_many old new [] (told ∷ replies) ran = absurd ran
replies_are_as_many old new (said ∷ lines) [] ran = absurd ran

-- What every operation keeps: how many pages there are, and the next id up to one more.
pub record IsLittle (old new : Core) : Type 0 where
  pub pages : length new.pages ≡ length old.pages
  pub next : new.next ≤ old.next + 1

same_is_little : (old new : Core) → new ≡ old → IsLittle old new
same_is_little old new same =
    subst (λ (core : Core). IsLittle old core) (sym same) (record { pages = refl; next = omega arith })

pub comes_little : (old : Core) (asked : Op) (told : Reply) (new : Core) → Comes old asked told new → IsLittle old new
comes_little old op.Unbound reply.Unbound new came = same_is_little old new came
comes_little old op.Begin reply.Skipped new came = same_is_little old new came.1
comes_little old (op.Insert row) reply.Skipped new came = same_is_little old new came.1
comes_little old (op.Read rid) reply.Skipped new came = same_is_little old new came.1
comes_little old op.Commit reply.Skipped new came = same_is_little old new came.1
comes_little old op.Begin (reply.Began id) new came =
    subst (λ (core : Core). IsLittle old core) (sym came.2) (record { pages = refl; next = omega arith })
comes_little old op.Commit reply.Committed new came =
    subst (λ (core : Core). IsLittle old core) (sym came.1) (record { pages = refl; next = omega arith })
comes_little old (op.Insert row) (reply.Inserted rid) new came =
    subst (λ (core : Core). IsLittle old core) (sym came.2) (record { pages = length-set old.pages rid.page (set_slot (page_at old.pages rid.page) rid.slot (Row row)); next = omega arith })
comes_little old (op.Insert row) reply.NoSpace new came = same_is_little old new came.2
comes_little old (op.Read rid) reply.BadRid new came = same_is_little old new came.2
comes_little old (op.Read rid) (reply.Row row) new came = same_is_little old new came.2
comes_little old (op.Read rid) reply.NoRow new came = same_is_little old new came.2
comes_little old asked other new came = absurd came

-- A line raises the next id by one at most.
pub step-next : (old : State) (said : Line) (told : Reply) (new : State) → Step old said told new → new.core.next ≤ old.core.next + 1
step-next old said told new step = (comes_little old.core (op_of said old.names) told new.core step.comes).next

-- It keeps the number of pages.
pub step-pages : (old : State) (said : Line) (told : Reply) (new : State) → Step old said told new → length new.core.pages ≡ length old.core.pages
step-pages old said told new step = (comes_little old.core (op_of said old.names) told new.core step.comes).pages

-- A run raises the next id by as much as it has lines, at most.
pub run-next : (old new : State) (lines : List Line) (replies : List Reply) → Run old lines replies new → new.core.next ≤ old.core.next + length lines
run-next old new [] [] ran = subst (λ (end : State). end.core.next ≤ old.core.next + 0) (sym ran) (omega arith)
run-next old new (said ∷ lines) (told ∷ replies) ran =
    omega (arith, step-next old said told ran.0 ran.1, run-next ran.0 new lines replies ran.2)
run-next old new [] (told ∷ replies) ran = absurd ran
run-next old new (said ∷ lines) [] ran = absurd ran

-- It keeps the number of pages.
pub run-pages : (old new : State) (lines : List Line) (replies : List Reply) → Run old lines replies new → length new.core.pages ≡ length old.core.pages
run-pages old new [] [] ran = ap (λ (end : State). length end.core.pages) ran
run-pages old new (said ∷ lines) (told ∷ replies) ran =
    run-pages ran.0 new lines replies ran.2 ∙ step-pages old said told ran.0 ran.1
run-pages old new [] (told ∷ replies) ran = absurd ran
run-pages old new (said ∷ lines) [] ran = absurd ran
