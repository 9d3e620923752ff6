-- Every turn keeps what holds, and leaves the log the room that is kept.
use Rattle.std.specs.Prelude.{◌≡◌, ℕ, ◌+◌, ◌<◌, ◌≤◌, true, false, List, ◌∷◌, length, Option, Some, None}
use Rattle.rm_core.specs.Below.{Format, Row, sum_below, Act, Change, History, Undo}
use Rattle.rm_core.specs.Below.{Entry, Finish, undoes, enters, commits, pending_of, entry_for, undo_for}
use Rattle.rm_core.specs.Names.{Effect, save_of, entry_now, latched, effect, after, goes_to, logging, with_effect, Locked, Kept, Wants, IsSeated, May, Step}
use Rattle.rm_core.specs.Names.{closed, aborted, died, bytes_for, claims_at, claim_of, owed, claims, HasRoomFor, HasRoom, end_of, Savepoint, undoes_all}
use Rattle.rm_core.specs.Names.{returns, dropped, upto, Stage, idle, seeks, wants, tries, reads, fetches, alters, sets, settles, forces, finishes, rolls}
use Rattle.rm_core.specs.Names.{prepares, compensates, Seat, State, seat_at, Turn, begin, scan, scan_last, latch, try, try_last, insert}
use Rattle.rm_core.specs.Names.{lock, lock_alone, die, fetch, miss, lack, alter, settled, settle, commit, force, finish, abort, prepared, prepare}
use Rattle.rm_core.specs.Names.{compensate, end, save, no_target, target, back, owed_by, staged, Setting, Lacks, IsRefused}
use Rattle.rm_core.proofs.Names.{nat_tests, set, refl, sym, ap, subst, ◌∙◌, arith, ne_eqb, length-set, last_is_of, sum_below-one, pending_of-undo}
use Rattle.rm_core.proofs.Names.{pending-undo_other, pending-commit_other, pending-end_other, sum_below-less}
use Rattle.rm_core.proofs.Turns.{begin_keeps, finish_keeps, end_keeps, insert_keeps, alter_keeps, settle_keeps, prepare_keeps, compensate_keeps, commit_keeps}
use Rattle.rm_core.proofs.Turns.{Turns, IsPlain, plain, IsFree, free, left_by, goes, scans_plain, lock_keeps, lock_alone_keeps, force_keeps, settled_keeps}
use Rattle.rm_core.proofs.Turns.{prepared_keeps, latch_keeps}
use Rattle.rm_core.proofs.Moves.{Moved, moved-set, same_state}
use Rattle.rm_core.proofs.Sizes.{entry_size, commit_size, end_size, undo_size, next_within, next_after}

claim_owed : (history : History) (seat : Seat) → claim_of history seat ≤ owed_by history seat
claim_owed history seat = grind (arith, nat_tests)

pub all_owed : (s : State) → claims s ≤ owed s
all_owed s = grind (arith, nat_tests, sum_below-less, claim_owed)

pub claim-other : (old new : History) (txn : ℕ) (seat : Seat) → ((other : ℕ) → (other ≡ txn → ⊥) → pending_of new other ≡ pending_of old other)
    → ((seat.txn ≡ 0 → ⊥) → seat.txn ≡ txn → ⊥) → claim_of new seat ≡ claim_of old seat
claim-other old new txn seat pending other = grind (arith, nat_tests)

-- what is known of a state: all that is kept, and that it has room
pub record Known (format : Format) (limit : ℕ) (s : State) : Type 0 where
  pub kept : Kept format s
  pub room : HasRoom limit s

module _ (format : Format) (limit : ℕ) (s : State) (k : ℕ) (known : Known format limit s) (among : k < length s.seats) where
  abbrev seat : Seat
  seat = seat_at s.seats k

  abbrev bytes : ℕ
  bytes = bytes_for (pending_of s.history seat.txn)

  has : (seat.txn ≡ 0 → ⊥) → Turns format s k
  has some = record { kept = known.kept; among = among; some = some }

  -- where the log grows by no more than the session's claim falls, there is room as before
  room : (e : Effect) (was : Stage) → (seat.txn ≡ 0 → ⊥) → seat.stage ≡ was
      → ((other : ℕ) → (other ≡ seat.txn → ⊥) → pending_of (logging e.logged s.history) other ≡ pending_of s.history other)
      → end_of (logging e.logged s.history) + claim_of (logging e.logged s.history) e.seat ≤ end_of s.history + claims_at was bytes
      → HasRoom limit (with_effect s k e)
  room e was some at pending less =
      let new : History = logging e.logged s.history in
      let moved : Moved (seat_at s.seats) (seat_at (set s.seats k e.seat)) k e.seat = moved-set s.seats k e.seat among in
      let f : ℕ → ℕ = λ j. claim_of s.history (seat_at s.seats j) in
      let g : ℕ → ℕ = λ j. claim_of new (seat_at (set s.seats k e.seat) j) in
      let same : (j : ℕ) → (j ≡ k → ⊥) → g j ≡ f j = λ j differs. ap (claim_of new) (moved.other j differs)
      ∙ claim-other s.history new seat.txn (seat_at s.seats j) pending (λ one is. differs (known.kept.single j k some is)) in
      let mine : g k ≡ claim_of new e.seat = ap (claim_of new) moved.here in
      let was_mine : f k ≡ claims_at was bytes = rw (ne_eqb seat.txn 0 some) (ap (λ (st : Stage). claims_at st bytes) at) in
      let sums : sum_below g (length s.seats) + f k ≡ sum_below f (length s.seats) + g k = sum_below-one f g k (length s.seats) same among in
      let all : claims (with_effect s k e) ≡ sum_below g (length s.seats) = ap (sum_below g) (length-set s.seats k e.seat) in
      omega (arith, known.room, all, sums, mine, was_mine, less)

  -- where its transaction stays
  room_at : (logged : Option Act) (saves : List (Savepoint ℕ)) (stage was : Stage) → (seat.txn ≡ 0 → ⊥) → seat.stage ≡ was
      → ((other : ℕ) → (other ≡ seat.txn → ⊥) → pending_of (logging logged s.history) other ≡ pending_of s.history other)
      → end_of (logging logged s.history) + claims_at stage (bytes_for (pending_of (logging logged s.history) seat.txn)) ≤ end_of s.history + claims_at was bytes
      → HasRoom limit (with_effect s k (left_by s k logged s.grants saves stage))
  room_at logged saves stage was some at pending less =
      let e : Effect = left_by s k logged s.grants saves stage in
      let new : History = logging logged s.history in
      let claim : claim_of new e.seat ≡ claims_at stage (bytes_for (pending_of new seat.txn)) = rw (ne_eqb seat.txn 0 some) refl in
      room e was some at pending (omega (arith, claim, less))

  -- where nothing is logged
  room_left : (saves : List (Savepoint ℕ)) (stage was : Stage) → (seat.txn ≡ 0 → ⊥) → seat.stage ≡ was → claims_at stage bytes ≤ claims_at was bytes
      → HasRoom limit (with_effect s k (left_by s k None s.grants saves stage))
  room_left saves stage was some at less = room_at None saves stage was some at (λ other differs. refl) (omega (arith, less))

  -- a latch leaves the claim
  latch_claims : (stage : Stage) (page : ℕ) → Wants s seat stage page → claims_at (latched stage page) bytes ≡ claims_at stage bytes
  latch_claims stage page is = grind (arith, nat_tests)

  -- where the turn was asked for it
  room_asked : (new : State) → end_of new.history + 32 + owed new ≤ limit → HasRoom limit new
  room_asked new asks = omega (arith, asks, all_owed new)

  -- nothing changes
  still : Known format limit (with_effect s k (goes_to s seat))
  still = subst (Known format limit) (sym (same_state s k)) known

  -- from a plain stage to a free one
  goes_on : (saves : List (Savepoint ℕ)) (stage was : Stage) → (seat.txn ≡ 0 → ⊥) → seat.stage ≡ was → IsPlain was → IsFree stage → Locked s.grants seat.txn stage
      → Known format limit (with_effect s k (left_by s k None s.grants saves stage))
  goes_on saves stage was some at is_plain is_free on =
      let before = (plain was is_plain).2 bytes in
      let now = (plain stage (free stage is_free).plain).2 bytes in
      record { kept = goes format s k (has some) saves stage was at is_plain is_free on; room = room_left saves stage was some at (omega (arith, before, now)) }

  -- the operation is closed
  pub closes : (was : Stage) → (seat.txn ≡ 0 → ⊥) → seat.stage ≡ was → IsPlain was → Known format limit (closed s k)
  closes was some at is_plain = goes_on seat.saves idle was some at is_plain tt tt

  turn_keeps : (pages : ℕ) (turn : Turn) → IsSeated seat turn → May format pages s k seat turn → HasRoomFor limit s turn (after format s k seat turn)
      → Known format limit (after format s k seat turn)
  turn_keeps pages (begin txn) some may asks = record {
    kept = begin_keeps format s k known.kept among may.0;
    room = omega (arith, asks.2, next_after s.history asks.0 asks.1, all_owed (after format s k seat (begin txn)));
  }
  turn_keeps pages (scan row from to true) some may asks = goes_on seat.saves (wants row to) seat.stage some refl (scans_plain seat.stage row from may.at) tt tt
  turn_keeps pages (scan row from to false) some may asks = goes_on seat.saves (seeks row to) seat.stage some refl (scans_plain seat.stage row from may.at) tt tt
  turn_keeps pages (scan_last row from) some may asks = closes seat.stage some refl (scans_plain seat.stage row from may.at)
  turn_keeps pages (latch page) some may asks =
      let claims = latch_claims seat.stage page may.wants_it in
      record { kept = latch_keeps format s k (has some) page may; room = room_left seat.saves (latched seat.stage page) seat.stage some refl (omega (arith, claims)) }
  turn_keeps pages (try row page slot) some may asks = goes_on seat.saves (seeks row (page + 1)) (tries row page) some may.0.at tt tt tt
  turn_keeps pages (try_last row page slot) some may asks = closes (tries row page) some may.0.at tt
  turn_keeps pages (insert row rid lsn) some may asks =
      record { kept = insert_keeps format s k (has some) row rid lsn may; room = room_asked (after format s k seat (insert row rid lsn)) asks }
  turn_keeps pages (lock rid) some may asks =
      record { kept = lock_keeps format s k (has some) rid may.at may.free; room = room_left seat.saves (reads rid) idle some may.at (omega arith) }
  turn_keeps pages (lock_alone rid slot) some may asks =
      record { kept = lock_alone_keeps format s k (has some) rid slot may.at may.free; room = room_left seat.saves (alters rid slot) idle some may.at (omega arith) }
  turn_keeps pages (die op rid alone holder) some may asks = goes_on seat.saves (rolls (undoes_all (died op holder))) idle some may.0.at tt tt tt
  turn_keeps pages (fetch rid slot) some may asks = closes (fetches rid) some may.0 tt
  turn_keeps pages (miss rid slot) some may asks = closes (sets rid slot) some may.0 tt
  turn_keeps pages (lack rid row rest) some may asks = closes (sets rid (Row row)) some may.0 tt
  turn_keeps pages (alter rid slot lsn) some may asks =
      record { kept = alter_keeps format s k (has some) rid slot lsn may; room = room_asked (after format s k seat (alter rid slot lsn)) asks }
  turn_keeps pages (settled outcome page) some may asks =
      record { kept = settled_keeps format s k (has some) outcome page may.0 may.1; room = room_left seat.saves idle (settles outcome page) some may.0 (omega arith) }
  turn_keeps pages (settle outcome page lsn) some may asks =
      let e : Entry = entry_now format s.history seat.txn page lsn in record {
        kept = settle_keeps format s k (has some) outcome page lsn may;
        room = room_at (Some (enters e)) seat.saves idle (settles outcome page) some may.at (λ other differs. refl)
            (omega (arith, next_within s.history lsn may.placed, entry_size e));
      }
  turn_keeps pages (commit lsn) some may asks =
      let f : Finish = record { lsn = lsn; txn = seat.txn } in record {
        kept = commit_keeps format s k (has some) lsn may.0 may.1;
        room = room_at (Some (commits f)) seat.saves forces idle some may.0 (λ other differs. pending-commit_other f s.history other (λ same. differs (sym same)))
            (omega (arith, next_within s.history lsn may.1, commit_size f));
      }
  turn_keeps pages (force durable) some may asks =
      record { kept = force_keeps format s k (has some) may.0; room = room_left seat.saves finishes forces some may.0 (omega arith) }
  turn_keeps pages finish some may asks =
      record { kept = finish_keeps format s k (has some) may; room = room (effect format s seat finish) finishes some may (λ other differs. refl) (omega arith) }
  turn_keeps pages abort some may asks = goes_on seat.saves (rolls (undoes_all aborted)) idle some may tt tt tt
  turn_keeps pages (prepared aim last) some may asks = record {
    kept = prepared_keeps format s k (has some) aim last may.1.0 may.0 may.1.1 may.2;
    room = room_left seat.saves (compensates aim last.rid.page) (prepares aim last.rid.page) some may.0 (omega arith);
  }
  turn_keeps pages (prepare aim last lsn) some may asks =
      let e : Entry = entry_for format lsn s.history last in record {
        kept = prepare_keeps format s k (has some) aim last lsn may;
        room = room_at (Some (enters e)) seat.saves (compensates aim last.rid.page) (prepares aim last.rid.page) some may.at (λ other differs. refl)
            (omega (arith, next_within s.history lsn may.placed, entry_size e));
      }
  turn_keeps pages (compensate aim last lsn) some may asks =
      let rest : List Change = may.1.0 in
      let next : pending_of s.history seat.txn ≡ last ∷ rest = may.1.1 in
      let u : Undo = undo_for lsn last in
      let mine : last.txn ≡ seat.txn = last_is_of s.history seat.txn last rest next in
      let left : pending_of (undoes u ∷ s.history) seat.txn ≡ rest = subst (λ (t : ℕ). pending_of (undoes u ∷ s.history) t ≡ rest) mine
      (pending_of-undo s.history u last rest (ap (pending_of s.history) mine ∙ next)) in record {
        kept = compensate_keeps format s k (has some) aim last rest lsn may.0 next may.2;
        room = room_at (Some (undoes u)) seat.saves (rolls aim) (compensates aim last.rid.page) some may.0
            (λ other differs. pending-undo_other u s.history other (λ same. differs (sym same ∙ mine)))
            (omega (arith, next_within s.history lsn may.2, undo_size u, ap bytes_for left, ap bytes_for next));
      }
  turn_keeps pages (end outcome lsn) some may asks =
      let f : Finish = record { lsn = lsn; txn = seat.txn } in record {
        kept = end_keeps format s k (has some) lsn outcome may.0 may.1 may.2;
        room = room (effect format s seat (end outcome lsn)) (rolls (undoes_all outcome)) some may.0
            (λ other differs. pending-end_other f s.history other (λ same. differs (sym same))) (omega (arith, next_within s.history lsn may.2, end_size f));
      }
  turn_keeps pages (save number) some may asks = goes_on (save_of s seat number ∷ dropped seat.saves number) idle idle some may tt tt tt
  turn_keeps pages (no_target number) some may asks = closes idle some may.0 tt
  turn_keeps pages (target number lsn) some may asks = goes_on (upto seat.saves number) (rolls (returns number lsn)) idle some may.0 tt tt tt
  turn_keeps pages (back number lsn) some may asks = closes (rolls (returns number lsn)) some may.0 tt
  turn_keeps pages turn some may asks = grind (arith, nat_tests, still)

pub turn_known : (format : Format) (pages limit : ℕ) (old new : State) (k : ℕ) (turn : Turn) → Known format limit old → Step format pages old k turn new
    → HasRoomFor limit old turn new → Known format limit new
turn_known format pages limit old new k turn known step asks =
    subst (Known format limit) (sym step.new_is)
    (turn_keeps format limit old k known step.among pages turn step.seated step.may (subst (HasRoomFor limit old turn) step.new_is asks))

-- ---- an operation that is refused for want of room in the log is closed

-- the stages at which a turn may be refused
abbrev pub Closes : Stage → Type 0
Closes idle = Unit {0}
Closes (tries row page) = Unit {0}
Closes (sets rid slot) = Unit {0}
Closes other = ⊥

closes_at : (format : Format) (pages limit offset : ℕ) (s : State) (k : ℕ) (turn : Turn) → Kept format s → May format pages s k (seat_at s.seats k) turn
    → Lacks limit offset turn (after format s k (seat_at s.seats k) turn) → Closes (seat_at s.seats k).stage
closes_at format pages limit offset s k turn kept may lacks = grind (arith, nat_tests)

pub refused_closes : (m : Setting) (s : State) (k offset : ℕ) → Kept m.format s → IsRefused m s k offset → Closes (seat_at s.seats k).stage
refused_closes m s k offset kept is = closes_at m.format m.pages m.limit offset s k is.turn kept is.may is.lacks

pub is_closed : (m : Setting) (s : State) (k : ℕ) (stage : Stage) → Known m.format m.limit s → k < length s.seats → (seat_at s.seats k).stage ≡ stage → Closes stage
    → Known m.format m.limit (closed s k)
is_closed m s k idle known among at closing =
    subst (Known m.format m.limit) (sym (ap (λ (st : Stage). with_effect s k (goes_to s (staged (seat_at s.seats k) st))) (sym at) ∙ same_state s k)) known
is_closed m s k (tries row page) known among at closing =
    closes m.format m.limit s k known among (tries row page) (λ none. let same : tries row page ≡ idle = sym at ∙ known.kept.bare k none in absurd cc) at tt
is_closed m s k (sets rid slot) known among at closing =
    closes m.format m.limit s k known among (sets rid slot) (λ none. let same : sets rid slot ≡ idle = sym at ∙ known.kept.bare k none in absurd cc) at tt
is_closed m s k other known among at closing = absurd closing
