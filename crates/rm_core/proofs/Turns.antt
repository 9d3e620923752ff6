-- What each turn of a session keeps: those that log nothing, those with which it gets a transaction and lets it go, and those that log.
use Rattle.std.specs.Prelude.{◌≡◌, ◌⊎◌, ℕ, ◌+◌, ◌<◌, List, ◌∷◌, length, Option, None, true, false, [], Some}
use Rattle.rm_core.specs.Below.{Format, Rid, Act, Change, History, entry_of, pending_of, IsFinished}
use Rattle.rm_core.specs.Below.{HasChange, IsLegal, category_after, Slot, Finish, ends, Vacant, Row, slot_at, category_of, Undo, Entry}
use Rattle.rm_core.specs.Below.{changes, undoes, enters, commits, newest_lsn, page_of, Fits, MayEnter, IsEntry, EntriesFollow, entry_for, undo_for}
use Rattle.rm_history.proofs.Rollbacks.{HasEnded, has_ended}
use Rattle.rm_history.specs.UndoLaws.{IsUndone}
use Rattle.rm_history.proofs.Following.{pending_there, entries_follow_change, entries_follow_entry}
use Rattle.rm_history.proofs.RoomLaws.{fitting_is_room}
use Rattle.rm_core.specs.Names.{Effect, logging, with_effect, target_at, Owes, IsOver, Heads, Readies, Locked, HeadOn, Seated, IsRight, Kept, HoldsAlone}
use Rattle.rm_core.specs.Names.{Latches, Looks, claims_at, Savepoint, target_of, Stage, idle, seeks, wants, reads, alters, settles, forces, finishes, rolls}
use Rattle.rm_core.specs.Names.{prepares, compensates, Seat, Grant, State, seat_at, latched, with_grant, HasGrant, Wants, MayLatch, IsReading, Outcome, Scans}
use Rattle.rm_core.specs.Names.{Aim, tries, fetches, sets, released, IsNext, undoes_all, empty_seat, change_of, setting, entry_now, SlotFits, MayAlter}
use Rattle.rm_core.specs.Names.{MaySettle, MayPrepare, inserted, altered, MayInsert, May, after, Turn, insert, alter, settle, commit, prepare, compensate, end}
use Rattle.rm_core.proofs.Names.{nat_tests, inl, inr, refl, sym, subst, ◌∙◌, arith, Elsewhere, elsewhere-none, elsewhere-end, finished_has_record, ap, eq-eqb}
use Rattle.rm_core.proofs.Names.{last_is_of, elsewhere-change, elsewhere-undo, elsewhere-enter, elsewhere-commit, finished_or_not, finish_fits, pending-change}
use Rattle.rm_core.proofs.Names.{pending-commit_other, legal_is_in_order, fits_in_order, entries_follow, no_undo_lacks_room}
use Rattle.rm_core.proofs.Grants.{Locks, no_locks, locks-joined, joined_any, joined_alone, more-released, released-less, alone_has}
use Rattle.rm_core.proofs.Moves.{Apart, moved_holds, owes_latches}
use Rattle.rm_core.proofs.Sizes.{next_above}

-- what every turn but a begin has at hand
pub record Turns (format : Format) (s : State) (k : ℕ) : Type 0 where
  pub kept : Kept format s
  pub among : k < length s.seats
  pub some : (seat_at s.seats k).txn ≡ 0 → ⊥

-- ---- what a stage says of its transaction

module _ (format : Format) (history : History) (txn : ℕ) where
  abbrev pub Says : Stage → Type 0
  Says forces = IsFinished history txn
  Says finishes = IsFinished history txn
  Says (settles outcome on) = (IsFinished history txn → ⊥) × HeadOn (pending_of history txn) on 0
  Says (prepares aim on) = (IsFinished history txn → ⊥) × HeadOn (pending_of history txn) on (target_of aim)
  Says (compensates aim on) = (IsFinished history txn → ⊥) × ((last : Change) × (rest : List Change) × (pending_of history txn ≡ last ∷ rest) × (last.rid.page ≡ on)
      × (target_of aim < last.lsn) × (entry_of history on ≡ category_after format history last))
  Says other = IsFinished history txn → ⊥

  seated_so : (next : ℕ) (saves : List (Savepoint ℕ)) (stage : Stage) → txn < next → Says stage
      → Seated format history next (record { txn = txn; saves = saves; stage = stage })
  seated_so next saves stage below says = grind (arith, nat_tests)

-- none is over or owes an entry, and each claims the same
abbrev pub IsPlain : Stage → Type 0
IsPlain forces = ⊥
IsPlain finishes = ⊥
IsPlain (settles outcome on) = ⊥
IsPlain (compensates aim on) = ⊥
IsPlain other = Unit {0}

pub plain : (stage : Stage) → IsPlain stage → (IsOver stage → ⊥) × ((page : ℕ) → Owes stage page → ⊥) × ((bytes : ℕ) → claims_at stage bytes ≡ 49 + bytes)
plain stage is = grind (arith, nat_tests)

-- a page is latched by none, and of none is more said than that its transaction is active
abbrev pub IsFree : Stage → Type 0
IsFree idle = Unit {0}
IsFree (seeks row from) = Unit {0}
IsFree (wants row on) = Unit {0}
IsFree (reads rid) = Unit {0}
IsFree (alters rid slot) = Unit {0}
IsFree (rolls aim) = Unit {0}
IsFree other = ⊥

-- what such a stage has to show
pub record Free (stage : Stage) : Type 0 where
  pub says : (format : Format) (history : History) (txn : ℕ) → (IsFinished history txn → ⊥) → Says format history txn stage
  pub latches : (page : ℕ) → Latches stage page ⊎ Looks stage page → ⊥
  pub plain : IsPlain stage

pub free : (stage : Stage) → IsFree stage → Free stage
free stage is = grind (arith, nat_tests)

-- what the session has to show where its transaction stays, of the record, the locks and the stage
pub record Stays (format : Format) (s : State) (k : ℕ) (logged : Option Act) (locks : List Grant) (stage : Stage) : Type 0 where
  pub legal : IsLegal format (logging logged s.history)
  pub elsewhere : Elsewhere s.history (logging logged s.history) (seat_at s.seats k).txn (Latches (seat_at s.seats k).stage)
  pub more : Locks s.grants locks
  pub locked : Locked locks (seat_at s.seats k).txn stage
  pub granted : (rid : Rid) → HasChange (logging logged s.history) (seat_at s.seats k).txn rid
      → HasChange s.history (seat_at s.seats k).txn rid ⊎ HoldsAlone locks (seat_at s.seats k).txn rid
  pub says : Says format (logging logged s.history) (seat_at s.seats k).txn stage
  pub owing : (page : ℕ) → Latches (seat_at s.seats k).stage page → IsRight format (logging logged s.history) page ⊎ Owes stage page
  pub latches : Apart (seat_at s.seats) k stage

-- its effect, and that all holds after it
abbrev pub left_by : State → ℕ → Option Act → List Grant → List (Savepoint ℕ) → Stage → Effect
left_by s k logged locks saves stage =
    record { logged = logged; grants = locks; seat = record { txn = (seat_at s.seats k).txn; saves = saves; stage = stage }; next = s.next }

abbrev pub LeftBy : Format → State → ℕ → Option Act → List Grant → List (Savepoint ℕ) → Stage → Type 0
LeftBy format s k logged locks saves stage = Kept format (with_effect s k (left_by s k logged locks saves stage))

-- what its stage says of its last pending change
pub heads_at : (format : Format) (s : State) (k : ℕ) (stage : Stage) → Turns format s k → (seat_at s.seats k).stage ≡ stage
    → (page : ℕ) → Heads stage page → HeadOn (pending_of s.history (seat_at s.seats k).txn) page (target_at stage)
heads_at format s k stage has at = grind (arith, nat_tests)

-- a scan begins at a plain stage
pub scans_plain : (stage : Stage) (row : List ℕ) (from : ℕ) → Scans stage row from → IsPlain stage
scans_plain stage row from scans = grind (arith, nat_tests)

pub begin_keeps : (format : Format) (s : State) (k : ℕ) → Kept format s → k < length s.seats → (seat_at s.seats k).txn ≡ 0
    → Kept format (with_effect s k (record { logged = None; grants = s.grants; seat = record { txn = s.next; saves = []; stage = idle }; next = s.next + 1 }))
begin_keeps format s k kept among none =
    let unused : IsFinished s.history s.next → ⊥ = λ finished. omega (arith, kept.fresh s.next (finished_has_record s.history s.next finished)) in
    moved_holds format s k (record { logged = None; grants = s.grants; seat = record { txn = s.next; saves = []; stage = idle }; next = s.next + 1 }) s.next kept among
    (record {
      legal = kept.legal;
      elsewhere = elsewhere-none s.history s.next (Latches (seat_at s.seats k).stage);
      -- each session's id is 0 or below the next one
      only = λ j not same. grind (arith, nat_tests);
      mine = λ some. refl;
      bare = λ empty. refl;
      seated = λ some. grind (arith, nat_tests);
      below = omega arith;
      grows = omega arith;
      more = λ other rid differs. (no_locks s.grants kept.apart).0 other rid;
      apart = kept.apart;
      locked = tt;
      granted = λ rid has unfinished. kept.granted s.next rid has unfinished;
      owing = λ page latches. absurd (subst (λ (st : Stage). Latches st page) (kept.bare k none) latches);
      latches = record { alone = λ j page differs latches other. latches; shared = λ j page differs looks other. looks };
    })

-- what fits leaves room, whatever the slot holds
altered_fits : (history : History) (txn : ℕ) (rid : Rid) (old slot : Slot) (lsn : ℕ) → Fits history → slot_at (page_of history rid.page) rid.slot ≡ old
    → SlotFits history txn rid old slot → Fits (changes (change_of history txn rid old slot lsn) ∷ history)
altered_fits history txn rid Vacant slot lsn fits held room = absurd room
altered_fits history txn rid (Row old) Vacant lsn fits held room =
    fitting_is_room.delete history (change_of history txn rid (Row old) Vacant lsn) old fits held refl refl
altered_fits history txn rid (Row old) (Row new) lsn fits held room =
    (fitting_is_room.growth history (change_of history txn rid (Row old) (Row new) lsn) old new fits held refl refl).0 room

owes_heads : (stage : Stage) (page : ℕ) → Owes stage page → Heads stage page
owes_heads stage page owes = grind (arith, nat_tests)

-- ---- what a turn leaves of other transactions

abbrev pub Any : ℕ → Type 0
Any page = Unit {0}

-- a turn's record is of its transaction
pub turn_elsewhere : (format : Format) (pages : ℕ) (s : State) (k : ℕ) (seat : Seat) (turn : Turn) → May format pages s k seat turn
    → Elsewhere s.history (after format s k seat turn).history seat.txn Any
turn_elsewhere format pages s k seat (insert row rid lsn) may = elsewhere-change _ _ _ _ refl tt
turn_elsewhere format pages s k seat (alter rid slot lsn) may = elsewhere-change _ _ _ _ refl tt
turn_elsewhere format pages s k seat (settle outcome page lsn) may = elsewhere-enter _ _ _ _ refl tt
turn_elsewhere format pages s k seat (commit lsn) may = elsewhere-commit _ _ _
turn_elsewhere format pages s k seat (prepare aim last lsn) may = elsewhere-enter _ _ _ _ (last_is_of s.history seat.txn last may.next.0 may.next.1) tt
turn_elsewhere format pages s k seat (compensate aim last lsn) may = elsewhere-undo _ _ _ _ (last_is_of s.history seat.txn last may.1.0 may.1.1) tt
turn_elsewhere format pages s k seat (end outcome lsn) may = elsewhere-end _ _ _
turn_elsewhere format pages s k seat other may = elsewhere-none s.history seat.txn Any

module _ (format : Format) (s : State) (k : ℕ) (has : Turns format s k) where
  abbrev seat : Seat
  seat = seat_at s.seats k

  pub stays : (logged : Option Act) (locks : List Grant) (saves : List (Savepoint ℕ)) (stage : Stage) → Stays format s k logged locks stage
      → LeftBy format s k logged locks saves stage
  stays logged locks saves stage own =
      let known : Seated format s.history s.next seat = has.kept.seated k has.some in
      moved_holds format s k (left_by s k logged locks saves stage) seat.txn has.kept has.among
      (record {
        legal = own.legal;
        elsewhere = own.elsewhere;
        only = λ j not same. not (has.kept.single j k has.some same);
        mine = λ some. refl;
        bare = λ none. absurd (has.some none);
        seated = λ some. seated_so format (logging logged s.history) seat.txn s.next saves stage known.below own.says;
        below = known.below;
        grows = omega arith;
        more = λ other rid differs. own.more.0 other rid;
        apart = own.more.1;
        locked = own.locked;
        granted = λ rid changed unfinished. elim (own.granted rid changed) [
          | inl earlier ↦ (own.more.0 seat.txn rid).alone (has.kept.granted seat.txn rid earlier (λ finished. unfinished (own.elsewhere.still seat.txn finished)))
          | inr holds ↦ holds
        ];
        owing = own.owing;
        latches = own.latches;
      })

  -- the transaction is active
  pub live : (was : Stage) → seat.stage ≡ was → (IsOver was → ⊥) → IsFinished s.history seat.txn → ⊥
  live was at not = (has.kept.seated k has.some).active (λ over. not (subst IsOver at over))

  -- the latches are some of those that it had
  pub fewer : (was stage : Stage) → seat.stage ≡ was → ((page : ℕ) → Latches stage page → Latches was page) → ((page : ℕ) → Looks stage page → ⊥)
      → Apart (seat_at s.seats) k stage
  fewer was stage at less none = record {
    alone = λ j page differs latches other. differs (has.kept.latched j k page (subst (λ (st : Stage). Latches st page) (sym at) (less page latches)) other);
    shared = λ j page differs looks other. none page looks;
  }

  -- a page that it has latched and does not owe is right
  pub right_here : (was : Stage) (page : ℕ) → seat.stage ≡ was → (Owes was page → ⊥) → Latches seat.stage page → IsRight format s.history page
  right_here was page at not latches = grind (arith, nat_tests, latches, owes_latches)

  -- nothing is logged
  pub quiet : (locks : List Grant) (saves : List (Savepoint ℕ)) (stage : Stage) → Locks s.grants locks → Locked locks seat.txn stage
      → Says format s.history seat.txn stage → ((page : ℕ) → Latches seat.stage page → IsRight format s.history page ⊎ Owes stage page)
      → Apart (seat_at s.seats) k stage → LeftBy format s k None locks saves stage
  quiet locks saves stage more on says owing latches = stays None locks saves stage (record {
    legal = has.kept.legal;
    elsewhere = elsewhere-none s.history seat.txn (Latches seat.stage);
    more = more;
    locked = on;
    granted = λ rid changed. inl changed;
    says = says;
    owing = owing;
    latches = latches;
  })

  -- from a plain stage to a free one
  pub goes_locked : (locks : List Grant) (saves : List (Savepoint ℕ)) (stage was : Stage) → seat.stage ≡ was → IsPlain was → IsFree stage → Locks s.grants locks
      → Locked locks seat.txn stage → LeftBy format s k None locks saves stage
  goes_locked locks saves stage was at is_plain is_free more on =
      let to : Free stage = free stage is_free in
      quiet locks saves stage more on (to.says format s.history seat.txn (live was at (plain was is_plain).0))
      (λ page latches. inl (right_here was page at ((plain was is_plain).1 page) latches))
      (fewer was stage at (λ page h. absurd (to.latches page (inl h))) (λ page h. to.latches page (inr h)))

  pub goes : (saves : List (Savepoint ℕ)) (stage was : Stage) → seat.stage ≡ was → IsPlain was → IsFree stage → Locked s.grants seat.txn stage
      → LeftBy format s k None s.grants saves stage
  goes saves stage was at is_plain is_free on = goes_locked s.grants saves stage was at is_plain is_free (no_locks s.grants has.kept.apart) on

  -- what a turn leaves that changes the stage alone
  abbrev LeftAt : Stage → Type 0
  LeftAt stage = LeftBy format s k None s.grants seat.saves stage

  -- a lock more, of a read and of an update or delete
  pub lock_keeps : (rid : Rid) → seat.stage ≡ idle → ((other : ℕ) → (other ≡ seat.txn → ⊥) → HoldsAlone s.grants other rid → ⊥)
      → LeftBy format s k None (with_grant s seat.txn rid false) seat.saves (reads rid)
  lock_keeps rid at allows =
      goes_locked (with_grant s seat.txn rid false) seat.saves (reads rid) idle at tt tt (locks-joined s.grants seat.txn rid false has.kept.apart allows)
      (joined_any s.grants (record { txn = seat.txn; rid = rid; alone = false }))

  pub lock_alone_keeps : (rid : Rid) (slot : Slot) → seat.stage ≡ idle → ((other : ℕ) → (other ≡ seat.txn → ⊥) → HasGrant s.grants other rid → ⊥)
      → LeftBy format s k None (with_grant s seat.txn rid true) seat.saves (alters rid slot)
  lock_alone_keeps rid slot at allows =
      goes_locked (with_grant s seat.txn rid true) seat.saves (alters rid slot) idle at tt tt
      (locks-joined s.grants seat.txn rid true has.kept.apart allows) (joined_alone s.grants (record { txn = seat.txn; rid = rid; alone = true }) refl)

  -- the log is durable to the commit record
  pub force_keeps : seat.stage ≡ forces → LeftAt finishes
  force_keeps at =
      quiet s.grants seat.saves finishes (no_locks s.grants has.kept.apart) tt ((has.kept.seated k has.some).over (subst IsOver (sym at) tt))
      (λ page h. absurd (subst (λ (was : Stage). Latches was page) at h)) (fewer forces finishes at (λ page h. h) (λ page h. h))

  -- the entry is right
  pub settled_keeps : (outcome : Outcome) (page : ℕ) → seat.stage ≡ settles outcome page → IsRight format s.history page → LeftAt idle
  settled_keeps outcome page at right =
      quiet s.grants seat.saves idle (no_locks s.grants has.kept.apart) tt (live (settles outcome page) at (λ h. h))
      (λ p h. inl (subst (IsRight format s.history) (subst (λ (was : Stage). Latches was p) at h) right))
      (fewer (settles outcome page) idle at (λ p h. absurd h) (λ p h. h))

  -- the change that is next undone is above where the rollback goes
  pub above_target : (aim : Aim) (last : Change) (rest : List Change) → seat.stage ≡ prepares aim last.rid.page → pending_of s.history seat.txn ≡ last ∷ rest
      → target_of aim < last.lsn
  above_target aim last rest at next =
      let head = heads_at format s k (prepares aim last.rid.page) has at last.rid.page refl in
      let first : pending_of s.history seat.txn ≡ head.0 ∷ head.1 = head.2 in
      let same : head.0 ≡ last = cc in subst (λ (c : Change). target_of aim < c.lsn) same head.4

  -- the entry will be right
  pub prepared_keeps : (aim : Aim) (last : Change) (rest : List Change) → seat.stage ≡ prepares aim last.rid.page → pending_of s.history seat.txn ≡ last ∷ rest
      → entry_of s.history last.rid.page ≡ category_after format s.history last → LeftAt (compensates aim last.rid.page)
  prepared_keeps aim last rest at next right =
      let was : Stage = prepares aim last.rid.page in
      quiet s.grants seat.saves (compensates aim last.rid.page) (no_locks s.grants has.kept.apart) tt
      (live was at (λ h. h), (last, rest, next, refl, above_target aim last rest at next, right))
      (λ page h. inr (subst (λ (st : Stage). Latches st page) at h)) (fewer was (compensates aim last.rid.page) at (λ page h. h) (λ page h. h))

  -- to a latched stage, where the latch is free
  latch_to : (page : ℕ) (was stage : Stage) → MayLatch s k seat page → seat.stage ≡ was → IsFree was → Says format s.history seat.txn stage
      → Locked s.grants seat.txn stage → ((p : ℕ) → Latches stage p → (page ≡ p) × (IsReading was → ⊥)) → ((p : ℕ) → Looks stage p → page ≡ p) → LeftAt stage
  latch_to page was stage may at is_free says on alone shared =
      quiet s.grants seat.saves stage (no_locks s.grants has.kept.apart) on says
      (λ p h. absurd ((free was is_free).latches p (inl (subst (λ (st : Stage). Latches st p) at h))))
      (record {
        alone = grind (arith, nat_tests);
        shared = λ j p differs looks other. may.free j differs (subst (Latches (seat_at s.seats j).stage) (sym (shared p looks)) other);
      })

  latch_from : (page : ℕ) (stage : Stage) → MayLatch s k seat page → seat.stage ≡ stage → Wants s seat stage page → LeftAt (latched stage page)
  latch_from page (wants row on) may at is =
      latch_to page (wants row on) (tries row page) may at tt (live (wants row on) at (λ h. h)) tt (λ p h. (h, λ r. r)) (λ p h. absurd h)
  latch_from page (reads rid) may at is =
      latch_to page (reads rid) (fetches rid) may at tt (live (reads rid) at (λ h. h)) (subst (Locked s.grants seat.txn) at (has.kept.locked k))
      (λ p h. absurd h) (λ p h. sym is ∙ h)
  latch_from page (alters rid slot) may at is =
      latch_to page (alters rid slot) (sets rid slot) may at tt (live (alters rid slot) at (λ h. h))
      (subst (Locked s.grants seat.txn) at (has.kept.locked k)) (λ p h. (sym is ∙ h, λ r. r)) (λ p h. absurd h)
  latch_from page (rolls aim) may at is =
      latch_to page (rolls aim) (prepares aim page) may at tt (live (rolls aim) at (λ h. h), is) tt (λ p h. (h, λ r. r)) (λ p h. absurd h)
  latch_from page other may at is = absurd is

  pub latch_keeps : (page : ℕ) → MayLatch s k seat page → LeftAt (latched seat.stage page)
  latch_keeps page may = latch_from page seat.stage may refl may.wants_it

  abbrev freed : Option Act → Effect
  freed logged = record { logged = logged; grants = released s.grants seat.txn; seat = empty_seat; next = s.next }

  -- a finished transaction lets its session and its locks go
  free_keeps : (logged : Option Act) (was : Stage) → seat.stage ≡ was → ((page : ℕ) → Latches was page → ⊥) → IsLegal format (logging logged s.history)
      → Elsewhere s.history (logging logged s.history) seat.txn (Latches seat.stage) → IsFinished (logging logged s.history) seat.txn
      → Kept format (with_effect s k (freed logged))
  free_keeps logged was at none legal elsewhere finished = moved_holds format s k (freed logged) seat.txn has.kept has.among (record {
    legal = legal;
    elsewhere = elsewhere;
    only = λ j not same. not (has.kept.single j k has.some same);
    mine = λ some. absurd (some refl);
    bare = λ empty. refl;
    seated = λ some. absurd (some refl);
    below = (has.kept.seated k has.some).below;
    grows = omega arith;
    more = λ other rid differs. more-released s.grants seat.txn other rid differs;
    apart = λ one other rid alone any.
        has.kept.apart one other rid ((released-less s.grants seat.txn one rid).alone alone) ((released-less s.grants seat.txn other rid).any any);
    locked = tt;
    granted = λ rid changed unfinished. absurd (unfinished finished);
    owing = λ page latches. absurd (none page (subst (λ (st : Stage). Latches st page) at latches));
    latches = record { alone = λ j page differs latches other. latches; shared = λ j page differs looks other. looks };
  })

  pub finish_keeps : seat.stage ≡ finishes → Kept format (with_effect s k (freed None))
  finish_keeps at =
      free_keeps None finishes at (λ page h. h) has.kept.legal (elsewhere-none s.history seat.txn (Latches seat.stage))
      ((has.kept.seated k has.some).over (subst IsOver (sym at) tt))

  pub end_keeps : (lsn : ℕ) (outcome : Outcome) → seat.stage ≡ rolls (undoes_all outcome) → pending_of s.history seat.txn ≡ [] → IsNext s.history lsn
      → Kept format (with_effect s k (freed (Some (ends (record { lsn = lsn; txn = seat.txn })))))
  end_keeps lsn outcome at none placed =
      let f : Finish = record { lsn = lsn; txn = seat.txn } in
      let was : Stage = rolls (undoes_all outcome) in
      let ended : HasEnded format s.history seat.txn (ends f ∷ s.history) = has_ended format s.history (ends f ∷ s.history) seat.txn has.kept.legal
      (live was at (λ h. h)) none (record { lsn = lsn; above = next_above s.history lsn placed; new_is = refl }) in
      free_keeps (Some (ends f)) was at (λ page h. h) ended.legal (elsewhere-end f s.history (Latches seat.stage)) ended.finished

  abbrev Logs : Act → List Grant → Stage → Type 0
  Logs act locks stage = LeftBy format s k (Some act) locks seat.saves stage

  -- each page has room
  room : Fits s.history
  room = fits_in_order s.history (legal_is_in_order format s.history has.kept.legal)

  -- the latch is the stage's
  latch : (was : Stage) (page : ℕ) → seat.stage ≡ was → Latches was page → Latches seat.stage page
  latch was page at latches = subst (λ (st : Stage). Latches st page) (sym at) latches

  -- of a row id that no other transaction has a lock for: then the stage is to settle its page
  change_keeps : (locks : List Grant) (outcome : Outcome) (was : Stage) (rid : Rid) (before after : Slot) (lsn : ℕ) → seat.stage ≡ was → (IsOver was → ⊥)
      → Latches was rid.page → ((page : ℕ) → Latches was page → rid.page ≡ page) → slot_at (page_of s.history rid.page) rid.slot ≡ before → IsNext s.history lsn
      → ((other : ℕ) → (other ≡ seat.txn → ⊥) → HoldsAlone s.grants other rid → ⊥) → Fits (changes (change_of s.history seat.txn rid before after lsn) ∷ s.history)
      → Locks s.grants locks → HoldsAlone locks seat.txn rid
      → Logs (changes (change_of s.history seat.txn rid before after lsn)) locks (settles outcome rid.page)
  change_keeps locks outcome was rid before after lsn at not mine only held placed free fits more holds =
      let c : Change = change_of s.history seat.txn rid before after lsn in
      let active : IsFinished s.history seat.txn → ⊥ = live was at not in
      let above : newest_lsn s.history < lsn = next_above s.history lsn placed in
      stays (Some (changes c)) locks seat.saves (settles outcome rid.page) (record {
        legal = (
          has.kept.legal,
          record {
            above = above;
            may_come = record {
              unfinished = active;
              held = held;
              others = λ other differs had. elim (finished_or_not s.history other) [
                | inl finished ↦ finished
                | inr unfinished ↦ absurd (free other differs (has.kept.granted other rid had unfinished))
              ];
              under_is = refl;
              need_is = refl;
            };
            fits = fits;
          },
          record { entered = tt; follow = entries_follow_change format s.history c (entries_follow format s.history has.kept.legal) },
        );
        elsewhere = elsewhere-change c s.history seat.txn (Latches seat.stage) refl (latch was rid.page at mine);
        more = more;
        locked = tt;
        granted = λ place had. elim had [ inl now ↦ inr (subst (HoldsAlone locks seat.txn) now.1 holds) | inr earlier ↦ inl earlier ];
        says = (active, (c, pending_of s.history seat.txn, pending-change c s.history, refl, omega (arith, above)));
        owing = λ page h. inr (only page (subst (λ (st : Stage). Latches st page) at h));
        latches = fewer was (settles outcome rid.page) at (λ page here. subst (Latches was) here mine) (λ page h. h);
      })

  pub insert_keeps : (row : List ℕ) (rid : Rid) (lsn : ℕ) → MayInsert s seat row rid lsn
      → Logs (changes (change_of s.history seat.txn rid Vacant (Row row) lsn)) (with_grant s seat.txn rid true) (settles (inserted row rid) rid.page)
  insert_keeps row rid lsn may =
      let c : Change = change_of s.history seat.txn rid Vacant (Row row) lsn in
      let free : (other : ℕ) → (other ≡ seat.txn → ⊥) → HasGrant s.grants other rid → ⊥ = λ other differs locked. may.is_slot.free (other, differs, locked) in
      change_keeps (with_grant s seat.txn rid true) (inserted row rid) (tries row rid.page) rid Vacant (Row row) lsn may.at (λ h. h) refl (λ page h. h)
      may.is_slot.vacant may.placed (λ other differs alone. free other differs (alone_has s.grants other rid alone))
      ((fitting_is_room.row s.history c row room may.is_slot.vacant refl refl).0 may.fits) (locks-joined s.grants seat.txn rid true has.kept.apart free)
      (joined_alone s.grants (record { txn = seat.txn; rid = rid; alone = true }) refl)

  pub alter_keeps : (rid : Rid) (slot : Slot) (lsn : ℕ) → MayAlter s seat rid slot lsn
      → Logs (changes (setting s.history seat.txn rid slot lsn)) s.grants (settles (altered rid slot) rid.page)
  alter_keeps rid slot lsn may =
      let old : Slot = slot_at (page_of s.history rid.page) rid.slot in
      let mine : HoldsAlone s.grants seat.txn rid = subst (Locked s.grants seat.txn) may.at (has.kept.locked k) in
      change_keeps s.grants (altered rid slot) (sets rid slot) rid old slot lsn may.at (λ h. h) refl (λ page h. h) refl may.placed
      (λ other differs alone. differs (has.kept.apart other seat.txn rid alone (alone_has s.grants seat.txn rid mine)))
      (altered_fits s.history seat.txn rid old slot lsn room refl may.fits) (no_locks s.grants has.kept.apart) mine

  -- one of no change record, which takes no lock and no latch
  log_keeps : (act : Act) (was stage : Stage) → seat.stage ≡ was → IsLegal format (act ∷ s.history) → Elsewhere s.history (act ∷ s.history) seat.txn (Latches seat.stage)
      → ((rid : Rid) → HasChange (act ∷ s.history) seat.txn rid → HasChange s.history seat.txn rid) → Locked s.grants seat.txn stage
      → Says format (act ∷ s.history) seat.txn stage → ((page : ℕ) → Latches was page → IsRight format (act ∷ s.history) page ⊎ Owes stage page)
      → ((page : ℕ) → Latches stage page → Latches was page) → ((page : ℕ) → Looks stage page → ⊥) → Logs act s.grants stage
  log_keeps act was stage at legal elsewhere changed locked says owing less none = stays (Some act) s.grants seat.saves stage (record {
    legal = legal;
    elsewhere = elsewhere;
    more = no_locks s.grants has.kept.apart;
    locked = locked;
    granted = λ rid had. inl (changed rid had);
    says = says;
    owing = λ page h. owing page (subst (λ (st : Stage). Latches st page) at h);
    latches = fewer was stage at less none;
  })

  -- an entry of the page of the last pending change
  enter_is_legal : (e : Entry) (last : Change) (rest : List Change) → (IsFinished s.history seat.txn → ⊥) → e.txn ≡ seat.txn → pending_of s.history seat.txn ≡ last ∷ rest
      → last.rid.page ≡ e.page → IsNext s.history e.lsn → IsEntry format s.history e → IsLegal format (enters e ∷ s.history)
  enter_is_legal e last rest active mine next here placed entry =
      let may : MayEnter s.history e = record {
        unfinished = subst (λ (t : ℕ). IsFinished s.history t → ⊥) (sym mine) active;
        last = last;
        is_last = (rest, ap (pending_of s.history) mine ∙ next);
        page_is = here;
      } in (
        has.kept.legal,
        record { above = next_above s.history e.lsn placed; may_come = may; fits = room },
        record { entered = entry; follow = entries_follow_entry format s.history e may (entries_follow format s.history has.kept.legal) },
      )

  pub settle_keeps : (outcome : Outcome) (page lsn : ℕ) → MaySettle format s seat outcome page lsn
      → Logs (enters (entry_now format s.history seat.txn page lsn)) s.grants idle
  settle_keeps outcome page lsn may =
      let was : Stage = settles outcome page in
      let e : Entry = entry_now format s.history seat.txn page lsn in
      let active : IsFinished s.history seat.txn → ⊥ = live was may.at (λ h. h) in
      let head : HeadOn (pending_of s.history seat.txn) page 0 = heads_at format s k was has may.at page refl in
      log_keeps (enters e) was idle may.at
      (enter_is_legal e head.0 head.1 active refl head.2 head.3 may.placed (record { differs = λ same. may.wrong (sym same); right = inl refl }))
      (elsewhere-enter e s.history seat.txn (Latches seat.stage) refl (latch was page may.at refl)) (λ rid had. had) tt active
      (λ p here. inl (rw (eq-eqb page p here) (ap (λ (n : ℕ). category_of format (page_of s.history n)) here))) (λ p h. absurd h) (λ p h. h)

  pub prepare_keeps : (aim : Aim) (last : Change) (lsn : ℕ) → MayPrepare format s seat aim last lsn
      → Logs (enters (entry_for format lsn s.history last)) s.grants (compensates aim last.rid.page)
  prepare_keeps aim last lsn may =
      let was : Stage = prepares aim last.rid.page in
      let rest : List Change = may.next.0 in
      let next : pending_of s.history seat.txn ≡ last ∷ rest = may.next.1 in
      let e : Entry = entry_for format lsn s.history last in
      let mine : last.txn ≡ seat.txn = last_is_of s.history seat.txn last rest next in
      let active : IsFinished s.history seat.txn → ⊥ = live was may.at (λ h. h) in
      log_keeps (enters e) was (compensates aim last.rid.page) may.at
      (enter_is_legal e last rest active mine next refl may.placed
      (record { differs = λ is. may.wrong (sym is); right = inr (last, (rest, ap (pending_of s.history) mine ∙ next), refl) }))
      (elsewhere-enter e s.history seat.txn (Latches seat.stage) mine (latch was last.rid.page may.at refl)) (λ rid had. had) tt
      (active, (last, rest, next, refl, above_target aim last rest may.at next, rw (eq-eqb last.rid.page last.rid.page refl) refl))
      (λ page h. inr h) (λ page h. h) (λ page h. h)

  pub compensate_keeps : (aim : Aim) (last : Change) (rest : List Change) (lsn : ℕ) → seat.stage ≡ compensates aim last.rid.page
      → pending_of s.history seat.txn ≡ last ∷ rest → IsNext s.history lsn → Logs (undoes (undo_for lsn last)) s.grants (rolls aim)
  compensate_keeps aim last rest lsn at next placed =
      let was : Stage = compensates aim last.rid.page in
      let u : Undo = undo_for lsn last in
      let active : IsFinished s.history seat.txn → ⊥ = live was at (λ h. h) in
      let ready = (has.kept.seated k has.some).ready last.rid.page (subst (λ (st : Stage). Readies st last.rid.page) (sym at) refl) last rest next in
      let is : IsUndone format s.history seat.txn rest (undoes u ∷ s.history) =
      no_undo_lacks_room format s.history (undoes u ∷ s.history) seat.txn last rest has.kept.legal active next
      (record { settled = s.history; settles = inl (ready.1, refl); lsn = lsn; above = next_above s.history lsn placed; new_is = refl }) in
      log_keeps (undoes u) was (rolls aim) at is.legal
      (elsewhere-undo u s.history seat.txn (Latches seat.stage) (last_is_of s.history seat.txn last rest next) (latch was last.rid.page at refl)) (λ rid had. had) tt
      active (λ page here. inl (subst (IsRight format (undoes u ∷ s.history)) here (rw (eq-eqb last.rid.page last.rid.page refl) ready.1))) (λ p h. absurd h) (λ p h. h)

  -- a page whose entry another session owes has something pending, also after a commit
  follow_commit : (lsn : ℕ) → seat.stage ≡ idle → EntriesFollow format (commits (record { lsn = lsn; txn = seat.txn }) ∷ s.history)
  follow_commit lsn at page = elim (has.kept.owing page) [
    | inl right ↦ inl right
    | inr owes ↦
        let j : ℕ = owes.0 in
        let f : Finish = record { lsn = lsn; txn = seat.txn } in
        let other : Seat = seat_at s.seats j in
        let differs : j ≡ k → ⊥ = λ is. subst (λ (st : Stage). Owes st page) (ap (λ (n : ℕ). (seat_at s.seats n).stage) is ∙ at) owes.1 in
        let some : other.txn ≡ 0 → ⊥ = λ none. subst (λ (st : Stage). Owes st page) (has.kept.bare j none) owes.1 in
        let head = (has.kept.seated j some).head page (owes_heads other.stage page owes.1) in
        inr (pending_there (commits f ∷ s.history) other.txn head.0 head.1 page
        (pending-commit_other f s.history other.txn (λ same. differs (has.kept.single j k has.some (sym same))) ∙ head.2) head.3)
  ]

  pub commit_keeps : (lsn : ℕ) → seat.stage ≡ idle → IsNext s.history lsn → Logs (commits (record { lsn = lsn; txn = seat.txn })) s.grants forces
  commit_keeps lsn at placed =
      let f : Finish = record { lsn = lsn; txn = seat.txn } in
      log_keeps (commits f) idle forces at (
        has.kept.legal,
        record { above = next_above s.history lsn placed; may_come = live idle at (λ h. h); fits = finish_fits s.history f room },
        record { entered = tt; follow = follow_commit lsn at },
      )
      (elsewhere-commit f s.history (Latches seat.stage)) (λ rid had. had) tt (inl refl) (λ page h. absurd h) (λ page h. h) (λ page h. h)
