-- Calls one after another.
use Rattle.std.proofs.Common.{◌≡◌, ℕ, Bool, true, false, refl, sym, ◌∙◌, arith}
use Rattle.rm_types.specs.declared.areas.Area.{Area}
use Rattle.rm_types.specs.declared.areas.Area.TheVariants.{Master, Log, Data, Space, Copy}
use Rattle.rm_outside.specs.Areas.{is_same}
use Rattle.rm_outside.specs.Counts.{CountsBlock, CountsBytes, CountsAtMost}
use Rattle.rm_outside.specs.Images.{Image, KeepsOthers}
use Rattle.rm_outside.specs.Moments.{AddsNone, ComesBy, Elapses, Follows, IsDurable, started, goes_on, joined, weaker}
use Rattle.rm_outside.specs.Calls.{Facts, LeavesContent, StaysUnless, Counts, Reading, Writing}

-- ---- counts

stays : (b : Bool) (n : ℕ) → StaysUnless b n n
stays true n = tt
stays false n = refl

stays_then : (b : Bool) (m n o : ℕ) → StaysUnless b m n → StaysUnless b n o → StaysUnless b m o
stays_then true m n o one other = tt
stays_then false m n o one other = other ∙ one

stays_as : (b : Bool) (m n : ℕ) → n ≡ m → StaysUnless b m n
stays_as true m n same = tt
stays_as false m n same = same

-- what a read counts
pub blocks_stay : (area : Area) (m n : ℕ) → CountsBlock area m n → StaysUnless (is_same Data area) m n
blocks_stay Data m n counted = tt
blocks_stay Master m n same = same
blocks_stay Log m n same = same
blocks_stay Space m n same = same
blocks_stay Copy m n same = same

pub bytes_stay : (area : Area) (len m n : ℕ) → CountsBytes area len m n → StaysUnless (is_same Log area) m n
bytes_stay Log len m n counted = tt
bytes_stay Master len m n same = same
bytes_stay Data len m n same = same
bytes_stay Space len m n same = same
bytes_stay Copy len m n same = same

pub failed_bytes_stay : (area : Area) (len m n : ℕ) → CountsAtMost area len m n → StaysUnless (is_same Log area) m n
failed_bytes_stay Log len m n counted = tt
failed_bytes_stay Master len m n same = same
failed_bytes_stay Data len m n same = same
failed_bytes_stay Space len m n same = same
failed_bytes_stay Copy len m n same = same

module _ {data_read log_read : Bool} where
  pub counts_none : {a : Facts} → Counts data_read log_read a a
  counts_none = record { faults = λ area. omega arith; blocks = stays data_read _; log_bytes = stays log_read _ }

  pub counts_then : {a b c : Facts} → Counts data_read log_read a b → Counts data_read log_read b c
      → Counts data_read log_read a c
  counts_then one other = record {
    faults = λ area. omega (arith, one.faults area, other.faults area);
    blocks = stays_then data_read _ _ _ one.blocks other.blocks;
    log_bytes = stays_then log_read _ _ _ one.log_bytes other.log_bytes;
  }

  pub counts_as : {a b : Facts} → Counts false false a b → Counts data_read log_read a b
  counts_as none = record {
    faults = none.faults;
    blocks = stays_as data_read _ _ none.blocks;
    log_bytes = stays_as log_read _ _ none.log_bytes;
  }

  -- ---- calls that only read

  -- no call
  pub reads_none : {a : Facts} → ((c : Image) → a.left_since a.moment c → a.may_leave c) → Reading data_read log_read a a
  reads_none only_now = record {
    modelled = λ models. models;
    content = refl;
    crash = record { each = λ c now. now };
    time = started _ _ _ only_now;
    counts = counts_none;
  }

  -- one call
  pub reads_once : {a b : Facts} → ((c : Image) → a.left_since a.moment c → a.may_leave c)
      → (b.models_content → a.models_content) → b.content ≡ a.content
      → AddsNone a.may_leave b.may_leave
      → Elapses a.moment b.moment a.left_since b.left_since b.may_leave → Counts data_read log_read a b
      → Reading data_read log_read a b
  reads_once only_now modelled same added time counts = record {
    modelled = modelled;
    content = same;
    crash = added;
    time = goes_on (started _ _ _ only_now) time added.each;
    counts = counts;
  }

  -- some calls, and then others
  pub reads_then : {a b c : Facts} → Reading data_read log_read a b → Reading data_read log_read b c
      → Reading data_read log_read a c
  reads_then one other = record {
    modelled = λ models. one.modelled (other.modelled models);
    content = other.content ∙ one.content;
    crash = record { each = λ c now. one.crash.each c (other.crash.each c now) };
    time = joined one.time (weaker other.time one.crash.each);
    counts = counts_then one.counts other.counts;
  }

  -- where nothing is counted, anything may be
  pub reads_as : {a b : Facts} → Reading false false a b → Reading data_read log_read a b
  reads_as syncs = record { modelled = syncs.modelled; content = syncs.content; crash = syncs.crash; time = syncs.time; counts = counts_as syncs.counts }

-- what is all synced stays so
pub synced_on : {data_read log_read : Bool} {a b : Facts} → Reading data_read log_read a b → LeavesContent a → LeavesContent b
synced_on reads synced = λ c now. synced c (reads.crash.each c now) ∙ sym reads.content

-- ---- calls that write

comes_then : {step : Image → Image → Type 0} {old mid : Image → Type 0} → Follows step old mid
    → ((c d e : Image) → step c d → step d e → step c e)
    → (e : Image) → ComesBy step mid e → ComesBy step old e
comes_then follows trans e (d, left, last) = let before = follows.each d left in (before.0, before.1, trans _ _ _ before.2 last)

module _ {change step : Image → Image → Type 0} where
  -- one call, where the step may also change nothing
  pub writes_once : {a b : Facts} → ((c : Image) → a.left_since a.moment c → a.may_leave c) → ((c : Image) → step c c)
      → (b.models_content → a.models_content)
      → change a.content b.content → Follows step a.may_leave b.may_leave
      → Elapses a.moment b.moment a.left_since b.left_since b.may_leave → Counts false false a b → Writing change step a b
  writes_once only_now still modelled content follows time counts = record {
    modelled = modelled;
    content = content;
    crash = follows;
    time = goes_on (started _ _ _ (λ c left. (c, only_now c left, still c))) time follows.each;
    counts = counts;
  }

  -- a write, and then syncs
  pub writes_synced : {a b c : Facts} → Writing change step a b → Reading false false b c → Writing change step a c
  writes_synced {a} written syncs = record {
    modelled = λ models. written.modelled (syncs.modelled models);
    content = rw syncs.content written.content;
    crash = record { each = λ c now. written.crash.each c (syncs.crash.each c now) };
    time = joined written.time (weaker syncs.time written.crash.each);
    counts = counts_then written.counts syncs.counts;
  }

  -- syncs, and then a write
  pub synced_writes : {a b c : Facts} → Reading false false a b → Writing change step b c → ((c : Image) → step c c)
      → Writing change step a c
  synced_writes syncs written still = record {
    modelled = λ models. syncs.modelled (written.modelled models);
    content = rw (← syncs.content) written.content;
    crash = record { each = λ c now. let d = written.crash.each c now in (d.0, syncs.crash.each d.0 d.1, d.2) };
    time = joined (weaker syncs.time (λ c left. (c, left, still c))) (weaker written.time (λ c d. (d.0, syncs.crash.each d.0 d.1, d.2)));
    counts = counts_then syncs.counts written.counts;
  }

  -- a change and a step that are of another kind too
  pub writes_weaker : {other_change other_step : Image → Image → Type 0} {a b : Facts} → Writing change step a b
      → ((c d : Image) → change c d → other_change c d)
      → ((c d : Image) → step c d → other_step c d) → Writing other_change other_step a b
  writes_weaker written changes holds = record {
    modelled = written.modelled;
    content = changes _ _ written.content;
    crash = record { each = λ c now. let d = written.crash.each c now in (d.0, d.1, holds _ _ d.2) };
    time = weaker written.time (λ c d. (d.0, d.1, holds _ _ d.2));
    counts = written.counts;
  }

module _ {step : Image → Image → Type 0} where
  -- no call, where the step may change nothing
  pub writes_none : {a : Facts} → ((c : Image) → a.left_since a.moment c → a.may_leave c) → ((c : Image) → step c c)
      → Writing step step a a
  writes_none {a} only_now still = record {
    modelled = λ models. models;
    content = still a.content;
    crash = record { each = λ c now. (c, now, still c) };
    time = started _ _ _ (λ c left. (c, only_now c left, still c));
    counts = counts_none;
  }

  -- syncs alone
  pub syncs_write : {a b : Facts} → Reading false false a b → ((c : Image) → step c c) → Writing step step a b
  syncs_write {a} syncs still = record {
    modelled = syncs.modelled;
    content = rw syncs.content (still a.content);
    crash = record { each = λ c now. (c, syncs.crash.each c now, still c) };
    time = weaker syncs.time (λ c left. (c, left, still c));
    counts = syncs.counts;
  }

  -- a write, and then another
  pub writes_then : {a b c : Facts} → Writing step step a b → Writing step step b c
      → ((c d e : Image) → step c d → step d e → step c e) → Writing step step a c
  writes_then one other trans = record {
    modelled = λ models. one.modelled (other.modelled models);
    content = trans _ _ _ one.content other.content;
    crash = record { each = λ c now. comes_then one.crash trans c (other.crash.each c now) };
    time = joined one.time (weaker other.time (comes_then one.crash trans));
    counts = counts_then one.counts other.counts;
  }

-- an area that no step changes stays durable
pub durable_on : {change step : Image → Image → Type 0} {area : Area} {a b : Facts} → Writing change step a b
    → ((c d : Image) → change c d → d area ≡ c area)
    → ((c d : Image) → step c d → d area ≡ c area) → IsDurable area a.content a.may_leave → IsDurable area b.content b.may_leave
durable_on written content_stays stays durable = record {
  each = λ c now. let d = written.crash.each c now in stays _ _ d.2 ∙ durable.each d.0 d.1 ∙ sym (content_stays _ _ written.content);
}

-- ---- calls that write one area

module _ {area : Area} where
  -- no call
  pub keeps_none : {a : Facts} → ((c : Image) → a.left_since a.moment c → a.may_leave c) → Writing (KeepsOthers area) (KeepsOthers area) a a
  keeps_none only_now = writes_none only_now (λ c. record { each = λ other differs. refl })

  -- some calls, and then others
  pub keeps_then : {a b c : Facts} → Writing (KeepsOthers area) (KeepsOthers area) a b → Writing (KeepsOthers area) (KeepsOthers area) b c
      → Writing (KeepsOthers area) (KeepsOthers area) a c
  keeps_then one other = writes_then one other (λ c d e first second. record { each = λ rest differs. second.each rest differs ∙ first.each rest differs })
