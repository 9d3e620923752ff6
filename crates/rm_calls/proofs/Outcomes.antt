-- What a call that was noted gives, after calls of its kind, and what it leaves known of its area.
use Rattle.std.proofs.Common.{if◌then◌else◌, IsTrue, ◌≡◌, ℕ, ◌≤◌, Bool, true, false, not, List, [], ◌∷◌, take, length, length-take, refl, sym, ◌∙◌, ap, subst, arith}
use Rattle.rm_types.specs.declared.areas.Area.{Area}
use Rattle.rm_outside.specs.Areas.{is_same}
use Rattle.rm_outside.specs.Images.{Image}
use Rattle.rm_outside.specs.Moments.{IsDurable}
use Rattle.rm_calls.specs.declared.answer.Answer.{Answer}
use Rattle.rm_calls.specs.declared.answer.Answer.TheVariants.{Done, Interrupted, Failed}
use Rattle.rm_calls.specs.Answers.{count_of, is_done, is_interrupted, is_whole, outcome_of}
use Rattle.rm_calls.specs.Calls.{Call, Read, Wrote, Synced, has_fault, is_lost, is_loss}
use Rattle.rm_calls.specs.Replay.{Holds, IsHonest, held, MayLeave}
use Rattle.rm_calls.specs.Steps.{Comes, Fills, IsKnown, Puts, Reads, Settles, Writes}
use Rattle.rm_calls.proofs.Steps.{fault_now, loss_elsewhere, no_loss, reads_none, reads_once, reads_then, shown, sync_durable, syncs_none, syncs_once, write_shows, writes_none, writes_once, writes_then}

-- a read, after reads
module _ {start : Image} (area : Area) (at : ℕ) (into : List ℕ) {old mid : List Call} (so_far : Reads start old mid) where
  pub more : {new : List Call} (answer : Answer) → new ≡ Read area at (take (count_of answer) into) answer ∷ mid → Reads start old new
  more {new} answer noted = reads_then so_far (subst (λ (calls : List Call). Reads start mid calls) (sym noted) (reads_once start area at (take (count_of answer) into) answer mid))

  found : {new : List Call} (count : ℕ) → new ≡ Read area at (take count into) (Done count) ∷ mid → IsHonest start new → is_lost old area ≡ false → Holds (held start old area) at (take count into)
  found count noted honest here = subst (λ (image : Image). Holds (image area) at (take count into)) so_far.content
      (shown start area at (take count into) count mid (subst (λ (calls : List Call). IsHonest start calls) noted honest) (so_far.lost area ∙ here))

  failed : {new : List Call} (answer : Answer) → is_done answer ≡ false → new ≡ Read area at (take (count_of answer) into) answer ∷ mid → IsTrue (has_fault new area)
  failed answer not_done noted =
      subst (λ (calls : List Call). IsTrue (has_fault calls area)) (sym noted) (fault_now (Read area at (take (count_of answer) into) answer) mid (ap not not_done))

  pub comes : {new : List Call} (answer : Answer) → new ≡ Read area at (take (count_of answer) into) answer ∷ mid → count_of answer ≤ length into → Comes start area at into old new (outcome_of answer)
  comes (Done count) noted bound = record {
    bound = bound;
    bytes = λ honest here. (found count noted honest here).shows;
    end = λ none honest here. (found count noted honest here).end (omega (arith, none, length-take count into));
    fault = tt;
    reads = more (Done count) noted;
  }
  comes Interrupted noted bound = record { bound = tt; bytes = tt; end = tt; fault = failed Interrupted refl noted; reads = more Interrupted noted }
  comes Failed noted bound = record { bound = tt; bytes = tt; end = tt; fault = failed Failed refl noted; reads = more Failed noted }

-- a write, after ones that were interrupted
module _ {start : Image} {area : Area} {at : ℕ} {bytes : List ℕ} {old mid : List Call} (so_far : Writes start area at bytes old mid) (same : (other : Area) → is_lost mid other ≡ is_lost old other) where
  whole_is_no_loss : (answer : Answer) → is_whole (length bytes) answer ≡ true → is_loss (Wrote area at bytes answer) ≡ false
  whole_is_no_loss (Done count) whole = ap not whole
  whole_is_no_loss Interrupted whole = absurd cc
  whole_is_no_loss Failed whole = absurd cc

  loses : (answer : Answer) (other : Area) (done : Bool) → done ≡ is_whole (length bytes) answer → (if done then false else is_same area other) ≡ false
      → is_lost (Wrote area at bytes answer ∷ mid) other ≡ is_lost old other
  loses answer other true whole kept = no_loss (Wrote area at bytes answer) mid other (whole_is_no_loss answer (sym whole)) ∙ same other
  loses answer other false whole kept = loss_elsewhere (Wrote area at bytes answer) mid other kept ∙ same other

  pub puts : {new : List Call} (answer : Answer) → new ≡ Wrote area at bytes answer ∷ mid → Puts start area at bytes old new (is_whole (length bytes) answer)
  puts answer noted = subst (λ (calls : List Call). Puts start area at bytes old calls (is_whole (length bytes) answer)) (sym noted) (record {
    shows = λ whole. write_shows start area at bytes answer mid whole;
    fault = λ part. fault_now (Wrote area at bytes answer) mid (ap not part);
    writes = writes_then so_far (writes_once start area at bytes answer mid);
    loses = λ other kept. loses answer other (is_whole (length bytes) answer) refl kept;
  })

-- one that was interrupted
pub interrupted_loses_none : {area : Area} {at : ℕ} {bytes : List ℕ} {mid new : List Call} (answer : Answer) → is_interrupted answer ≡ true → new ≡ Wrote area at bytes answer ∷ mid
    → (other : Area) → is_lost new other ≡ is_lost mid other
interrupted_loses_none (Done count) is noted other = absurd cc
interrupted_loses_none {area} {at} {bytes} {mid} Interrupted is noted other = ap (λ (calls : List Call). is_lost calls other) noted ∙ no_loss (Wrote area at bytes Interrupted) mid other refl
interrupted_loses_none Failed is noted other = absurd cc

-- a sync of an area that is not lost
module _ (start : Image) (area : Area) (old : List Call) (here : is_lost old area ≡ false) where
  durable : (answer : Answer) → is_done answer ≡ true → IsDurable area (held start old) (MayLeave start (Synced area answer ∷ old))
  durable (Done count) done = sync_durable start area count old here
  durable Interrupted done = absurd cc
  durable Failed done = absurd cc

  settled_loses : (answer : Answer) (other : Area) (done : Bool) → done ≡ is_done answer → (if done then false else is_same area other) ≡ false
      → is_lost (Synced area answer ∷ old) other ≡ is_lost old other
  settled_loses answer other true is kept = no_loss (Synced area answer) old other (ap not (sym is))
  settled_loses answer other false is kept = loss_elsewhere (Synced area answer) old other kept

  pub settles : {new : List Call} (answer : Answer) → new ≡ Synced area answer ∷ old → Settles start area old new (is_done answer)
  settles answer noted = subst (λ (calls : List Call). Settles start area old calls (is_done answer)) (sym noted) (record {
    durable = λ done. durable answer done;
    fault = λ not_done. fault_now (Synced area answer) old (ap not not_done);
    syncs = syncs_once start area answer old;
    loses = λ other kept. settled_loses answer other (is_done answer) refl kept;
  })

-- no call, since the area is lost
module _ {start : Image} {area : Area} {calls : List Call} {lost : Bool} (known : IsKnown lost calls area) (is : lost ≡ true) where
  pub fills_none : (at : ℕ) (into : List ℕ) → Fills start area at into calls calls false
  fills_none at into = record { bytes = λ no. absurd cc; fault = λ _. known.fault is; reads = reads_none start calls }

  pub puts_none : (at : ℕ) (bytes : List ℕ) → Puts start area at bytes calls calls false
  puts_none at bytes = record { shows = λ no. absurd cc; fault = λ _. known.fault is; writes = writes_none start area at bytes calls; loses = λ other kept. refl }

  pub settles_none : Settles start area calls calls false
  settles_none = record { durable = λ no. absurd cc; fault = λ _. known.fault is; syncs = syncs_none start calls; loses = λ other kept. refl }

-- before the first call
nothing_lost : (area : Area) → is_lost [] area ≡ false
unfolding is_lost
nothing_lost area = refl

pub known_first : {lost : Bool} {calls : List Call} (area : Area) → calls ≡ [] → lost ≡ false → IsKnown lost calls area
known_first area none unset = record {
  unless = λ _. subst (λ (calls : List Call). is_lost calls area ≡ false) (sym none) (nothing_lost area);
  fault = λ set. let differ = sym unset ∙ set in absurd cc;
}
