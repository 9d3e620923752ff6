-- What one call does to the images, and several one after another, whatever the files held.
use Rattle.std.proofs.Common.{IsTrue, ◌≡◌, inl, inr, ⊎_elim, ℕ, ◌&&◌, Bool, true, false, List, ◌∷◌, length, refl, sym, ◌∙◌, ap, subst, arith, if◌then◌else◌}
use Rattle.rm_types.specs.declared.areas.Area.{Area}
use Rattle.rm_outside.specs.Areas.{is_same}
use Rattle.rm_outside.specs.Images.{Image, Torn, Shows}
use Rattle.rm_outside.specs.Moments.{AddsNone, Follows, IsDurable}
use Rattle.rm_outside.specs.History.{Event, Write, Sync, content, may_leave}
use Rattle.rm_outside.specs.PutLaws.{put_shows, same-refl, torn_same, torn_then}
use Rattle.rm_outside.specs.Laws as laws
use Rattle.rm_calls.specs.declared.answer.Answer.{Answer}
use Rattle.rm_calls.specs.declared.answer.Answer.TheVariants.{Done, Interrupted, Failed}
use Rattle.rm_calls.specs.Answers.{is_whole}
use Rattle.rm_calls.specs.Calls.{Call, Read, Wrote, Synced, area_of, has_fault, is_fault, is_lost, is_loss}
use Rattle.rm_calls.specs.Replay.{events, Holds, IsHonest, held, MayLeave}
use Rattle.rm_outside.specs.Since.{counts_now, elapses, stands}
use Rattle.rm_calls.specs.Steps.{Passes, KeepsFaults, Reads, Writes, Syncs}

-- ---- the marks that a call leaves in the record

pub fault_stays : (call : Call) (rest : List Call) → KeepsFaults rest (call ∷ rest)
unfolding has_fault
fault_stays call rest area has =
    elim (is_fault call && is_same (area_of call) area) as (λ b. IsTrue (if b then true else has_fault rest area)) [ true ↦ refl | false ↦ has ]

pub fault_now : (call : Call) (rest : List Call) → is_fault call ≡ true → IsTrue (has_fault (call ∷ rest) (area_of call))
unfolding has_fault
fault_now call rest is =
    subst (λ (b : Bool). IsTrue (if b && is_same (area_of call) (area_of call) then true else has_fault rest (area_of call))) (sym is)
    (subst (λ (b : Bool). IsTrue (if b then true else has_fault rest (area_of call))) (sym (same-refl (area_of call))) refl)

pub no_loss : (call : Call) (rest : List Call) (area : Area) → is_loss call ≡ false → is_lost (call ∷ rest) area ≡ is_lost rest area
unfolding is_lost
no_loss call rest area is = ap (λ (b : Bool). if b && is_same (area_of call) area then true else is_lost rest area) is

pub loss_elsewhere : (call : Call) (rest : List Call) (area : Area) → is_same (area_of call) area ≡ false → is_lost (call ∷ rest) area ≡ is_lost rest area
unfolding is_lost
loss_elsewhere call rest area differs =
    elim (is_loss call) as (λ b. (if b && is_same (area_of call) area then true else is_lost rest area) ≡ is_lost rest area) [
      | true ↦ ap (λ (b : Bool). if b then true else is_lost rest area) differs
      | false ↦ refl
    ]

-- ---- reads

-- reads do nothing to the content
reads : {start : Image} {old new : List Call} → events new ≡ events old → (IsHonest start new → IsHonest start old)
    → Passes start old new → KeepsFaults old new → ((area : Area) → is_lost new area ≡ is_lost old area) → Reads start old new
reads {start} {old} {new} same honest time faults lost = record {
  same = same;
  honest = honest;
  content = ap (λ (es : List Event). content start es) same;
  images = record { each = λ c now. (honest now.0, subst (λ (es : List Event). may_leave start es c) same now.1) };
  time = time;
  faults = faults;
  lost = lost;
}

pub reads_none : (start : Image) (calls : List Call) → Reads start calls calls
reads_none start calls = reads refl (λ h. h) (stands (MayLeave start) calls) (λ area has. has) (λ area. refl)

pub reads_once : (start : Image) (area : Area) (at : ℕ) (bytes : List ℕ) (answer : Answer) (rest : List Call) → Reads start rest (Read area at bytes answer ∷ rest)
unfolding events IsHonest
reads_once start area at bytes answer rest =
    let call = Read area at bytes answer in
    reads refl (only answer) (elapses (MayLeave start) call rest) (fault_stays call rest) (λ other. no_loss call rest other refl)
  where
    only : (answer : Answer) → IsHonest start (Read area at bytes answer ∷ rest) → IsHonest start rest
    only (Done count) honest = honest.0
    only Interrupted honest = honest
    only Failed honest = honest

-- some, and then others
pub reads_then : {start : Image} {old mid new : List Call} → Reads start old mid → Reads start mid new → Reads start old new
reads_then {start} {old} {mid} {new} one other = reads (other.same ∙ one.same) (λ h. one.honest (other.honest h)) (record {
  later = omega (arith, one.time.later, other.time.later);
  each = λ t c le left. ⊎_elim
      (λ past. ⊎_elim (λ before. inl before) (λ now. inl (counts_now (MayLeave start) old t c (one.images.each c now))) (one.time.each t c le past))
      (λ now. inr now)
      (other.time.each t c (omega (arith, le, one.time.later)) left);
  keeps = λ t c le left. other.time.keeps t c (omega (arith, le, one.time.later)) (one.time.keeps t c le left);
}) (λ area has. other.faults area (one.faults area has)) (λ area. other.lost area ∙ one.lost area)

-- what an honest answer shows
pub shown : (start : Image) (area : Area) (at : ℕ) (bytes : List ℕ) (count : ℕ) (rest : List Call) → IsHonest start (Read area at bytes (Done count) ∷ rest)
    → is_lost rest area ≡ false → Holds (held start rest area) at bytes
unfolding IsHonest
shown start area at bytes count rest honest = honest.1

-- ---- writes

write_torn : (start : Image) (area : Area) (at : ℕ) (bytes : List ℕ) (answer : Answer) (rest : List Call) → Torn area at bytes (held start rest) (held start (Wrote area at bytes answer ∷ rest))
unfolding events
write_torn start area at bytes answer rest = laws.torn_by start area at bytes (is_whole (length bytes) answer) (events rest)

write_follows : (start : Image) (area : Area) (at : ℕ) (bytes : List ℕ) (answer : Answer) (rest : List Call) → Follows (Torn area at bytes) (MayLeave start rest) (MayLeave start (Wrote area at bytes answer ∷ rest))
unfolding events IsHonest may_leave
write_follows start area at bytes answer rest = record { each = λ c (honest, (d, left, torn)). (d, (honest, left), torn) }

write_still : (start : Image) (area : Area) (at : ℕ) (bytes : List ℕ) (answer : Answer) (rest : List Call) (c : Image) → MayLeave start rest c → MayLeave start (Wrote area at bytes answer ∷ rest) c
unfolding events IsHonest may_leave
write_still start area at bytes answer rest c (honest, left) = (honest, (c, left, torn_same area at bytes c))

pub write_shows : (start : Image) (area : Area) (at : ℕ) (bytes : List ℕ) (answer : Answer) (rest : List Call) → is_whole (length bytes) answer ≡ true
    → Shows (held start (Wrote area at bytes answer ∷ rest) area) at bytes
unfolding events content
write_shows start area at bytes answer rest whole =
    subst (λ (b : Bool). Shows (content start (Write area at bytes b ∷ events rest) area) at bytes) (sym whole) (put_shows (held start rest) area at bytes)

pub writes_once : (start : Image) (area : Area) (at : ℕ) (bytes : List ℕ) (answer : Answer) (rest : List Call) → Writes start area at bytes rest (Wrote area at bytes answer ∷ rest)
unfolding IsHonest
writes_once start area at bytes answer rest = record {
  honest = λ h. h;
  content = write_torn start area at bytes answer rest;
  images = write_follows start area at bytes answer rest;
  still = λ c now. write_still start area at bytes answer rest c now;
  time = elapses (MayLeave start) (Wrote area at bytes answer) rest;
  faults = fault_stays (Wrote area at bytes answer) rest;
}

pub writes_none : (start : Image) (area : Area) (at : ℕ) (bytes : List ℕ) (calls : List Call) → Writes start area at bytes calls calls
writes_none start area at bytes calls = record {
  honest = λ h. h;
  content = torn_same area at bytes (held start calls);
  images = record { each = λ c now. (c, now, torn_same area at bytes c) };
  still = λ c now. now;
  time = stands (MayLeave start) calls;
  faults = λ area has. has;
}

-- some writes of the same bytes, and then others
pub writes_then : {start : Image} {area : Area} {at : ℕ} {bytes : List ℕ} {old mid new : List Call} → Writes start area at bytes old mid → Writes start area at bytes mid new
    → Writes start area at bytes old new
writes_then one other = record {
  honest = λ h. one.honest (other.honest h);
  content = torn_then one.content other.content;
  images = record {
    each = λ c now.
        let d = other.images.each c now in
        let e = one.images.each d.0 d.1 in
        (e.0, e.1, torn_then e.2 d.2);
  };
  still = λ c now. other.still c (one.still c now);
  time = record {
    later = omega (arith, one.time.later, other.time.later);
    each = λ t c le left. ⊎_elim
        (λ past. ⊎_elim (λ before. inl before) (λ now. inr (other.still c now)) (one.time.each t c le past))
        (λ now. inr now)
        (other.time.each t c (omega (arith, le, one.time.later)) left);
    keeps = λ t c le left. other.time.keeps t c (omega (arith, le, one.time.later)) (one.time.keeps t c le left);
  };
  faults = λ area has. other.faults area (one.faults area has);
}

-- ---- syncs

pub sync_durable : (start : Image) (area : Area) (count : ℕ) (rest : List Call) → is_lost rest area ≡ false
    → IsDurable area (held start rest) (MayLeave start (Synced area (Done count) ∷ rest))
unfolding events may_leave
sync_durable start area count rest here = subst (λ (b : Bool). IsDurable area (held start rest) (λ c. IsHonest start (Synced area (Done count) ∷ rest) × may_leave start (if b then events rest else Sync area ∷ events rest) c)) (sym here)
    (record { each = λ c (honest, (left, same)). same })

-- the events of a sync that was noted, by whether it counts
module _ (start : Image) (area : Area) (rest : List Call) where
  counted_held : (lost : Bool) → content start (if lost then events rest else Sync area ∷ events rest) ≡ held start rest
  unfolding content
  counted_held true = refl
  counted_held false = refl

  counted_left : (lost : Bool) (c : Image) → may_leave start (if lost then events rest else Sync area ∷ events rest) c → may_leave start (events rest) c
  unfolding may_leave
  counted_left true c left = left
  counted_left false c left = left.0

sync_held : (start : Image) (area : Area) (answer : Answer) (rest : List Call) → held start (Synced area answer ∷ rest) ≡ held start rest
unfolding events
sync_held start area (Done count) rest = counted_held start area rest (is_lost rest area)
sync_held start area Interrupted rest = refl
sync_held start area Failed rest = refl

sync_adds_none : (start : Image) (area : Area) (answer : Answer) (rest : List Call) → AddsNone (MayLeave start rest) (MayLeave start (Synced area answer ∷ rest))
unfolding events IsHonest
sync_adds_none start area (Done count) rest = record { each = λ c (honest, left). (honest, counted_left start area rest (is_lost rest area) c left) }
sync_adds_none start area Interrupted rest = record { each = λ c now. now }
sync_adds_none start area Failed rest = record { each = λ c now. now }

pub syncs_once : (start : Image) (area : Area) (answer : Answer) (rest : List Call) → Syncs start rest (Synced area answer ∷ rest)
unfolding IsHonest
syncs_once start area answer rest = record {
  honest = λ h. h;
  content = sync_held start area answer rest;
  images = sync_adds_none start area answer rest;
  time = elapses (MayLeave start) (Synced area answer) rest;
  faults = fault_stays (Synced area answer) rest;
}

pub syncs_none : (start : Image) (calls : List Call) → Syncs start calls calls
syncs_none start calls = record {
  honest = λ h. h;
  content = refl;
  images = record { each = λ c now. now };
  time = stands (MayLeave start) calls;
  faults = λ area has. has;
}
