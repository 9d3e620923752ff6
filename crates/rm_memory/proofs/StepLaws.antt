-- What a volume owes of one call, from what the call noted.
use Rattle.std.proofs.Common.{◌≡◌, ◌≤◌, ℕ, Bool, true, false, not, List, [], ◌∷◌, length, Result, Ok, Err, OnOk, OnErr, is_ok, is_err, refl, sym, ◌∙◌, ap, subst, arith}
use Rattle.rm_types.specs.declared.areas.Area.{Area}
use Rattle.rm_types.specs.declared.areas.Area.TheVariants.{Master, Log, Data, Space, Copy}
use Rattle.rm_outside.specs.Images.{Image, Torn, Shows}
use Rattle.rm_outside.specs.Moments.{AddsNone, Follows, IsDurable, Elapses}
use Rattle.rm_outside.specs.Faults.{last_count}
use Rattle.rm_outside.specs.Counts.{CountsAtMost}
use Rattle.rm_outside.specs.PutLaws.{torn_same}
use Rattle.rm_outside.specs.Laws.{torn_by}
use Rattle.rm_outside.specs.History.{Event, Write, Sync, content, may_leave, left_since}
use Rattle.rm_outside.proofs.HistoryLaws.{shows_written, write_follows, lost_follows, content-sync, sync_durable, sync_adds_none}
use Rattle.rm_outside.specs.Since.{elapses, stands}

-- the facts of a write
pub record Written (area : Area) (at : ℕ) (bytes : List ℕ) (base_old : Image) (old : List Event) (base_new : Image) (new : List Event) : Type 0 where
  pub content : Torn area at bytes (content base_old old) (content base_new new)
  pub crash : Follows (Torn area at bytes) (may_leave base_old old) (may_leave base_new new)
  pub time : Elapses (length old) (length new) (left_since base_old old) (left_since base_new new) (may_leave base_new new)

-- the facts of a sync
pub record Durable (area : Area) (base_old : Image) (old : List Event) (base_new : Image) (new : List Event) : Type 0 where
  pub durable : IsDurable area (content base_old old) (may_leave base_new new)
  pub content : content base_new new ≡ content base_old old
  pub crash : AddsNone (may_leave base_old old) (may_leave base_new new)
  pub time : Elapses (length old) (length new) (left_since base_old old) (left_since base_new new) (may_leave base_new new)

noted : (area : Area) (at : ℕ) (bytes : List ℕ) (took : Bool) (base : Image) (old : List Event) → Written area at bytes base old base (Write area at bytes took ∷ old)
noted area at bytes took base old = record {
  content = torn_by base area at bytes took old;
  crash = write_follows base area at bytes took old;
  time = elapses (may_leave base) (Write area at bytes took) old;
}

lost : (area : Area) (at : ℕ) (bytes : List ℕ) (base : Image) (old : List Event) → Written area at bytes base old base old
lost area at bytes base old = record {
  content = torn_same area at bytes (content base old);
  crash = lost_follows base area at bytes old;
  time = stands (may_leave base) old;
}

carry : (P : Image → List Event → Type 0) (base base_new : Image) (events new : List Event) → base_new ≡ base → new ≡ events → P base events → P base_new new
carry P base base_new events new same is holds = subst (λ (b : Image). P b new) (sym same) (subst (λ (es : List Event). P base es) (sym is) holds)

pub written : {T E : Type 0} (area : Area) (at : ℕ) (bytes : List ℕ) (took : Bool) (base base_new : Image) (old new : List Event) (outcome : Result T E)
    → base_new ≡ base → OnOk outcome (new ≡ Write area at bytes took ∷ old) → OnErr outcome (new ≡ old) → Written area at bytes base old base_new new
written area at bytes took base base_new old new (Ok x) same ok err = carry (Written area at bytes base old) base base_new (Write area at bytes took ∷ old) new same ok (noted area at bytes took base old)
written area at bytes took base base_new old new (Err e) same ok err = carry (Written area at bytes base old) base base_new old new same err (lost area at bytes base old)

pub shown : {T E : Type 0} (area : Area) (at : ℕ) (bytes : List ℕ) (due : Bool) (base base_new : Image) (old new : List Event) (outcome : Result T E)
    → base_new ≡ base → OnOk outcome (new ≡ Write area at bytes (not due) ∷ old) → due ≡ false → is_ok outcome ≡ true → Shows (content base_new new area) at bytes
shown area at bytes due base base_new old new (Ok x) same ok none fine =
    carry (λ b es. Shows (content b es area) at bytes) base base_new (Write area at bytes true ∷ old) new same (ok ∙ ap (λ (d : Bool). Write area at bytes (not d) ∷ old) none) (shows_written base area at bytes old)
shown area at bytes due base base_new old new (Err e) same ok none fine = cc

pub synced : {T E : Type 0} (area : Area) (base base_new : Image) (old new : List Event) (outcome : Result T E) → base_new ≡ base → OnOk outcome (new ≡ Sync area ∷ old) → is_err outcome ≡ false → Durable area base old base_new new
synced area base base_new old new (Err e) same ok fine = cc
synced area base base_new old new (Ok x) same ok fine = carry (Durable area base old) base base_new (Sync area ∷ old) new same ok (record {
  durable = sync_durable base area old;
  content = content-sync base area old;
  crash = sync_adds_none base area old;
  time = elapses (may_leave base) (Sync area) old;
})

-- a read that failed counts no byte
pub counts_no_byte : (area : Area) (len reads : ℕ) → reads ≤ last_count → CountsAtMost area len reads reads
counts_no_byte Master len reads fits = refl
counts_no_byte Log len reads fits = (omega arith, omega arith)
counts_no_byte Data len reads fits = refl
counts_no_byte Space len reads fits = refl
counts_no_byte Copy len reads fits = refl

-- where nothing was done yet
pub content_fresh : (base : Image) (events : List Event) → events ≡ [] → content base events ≡ base
unfolding content
content_fresh base events fresh = ap (λ (es : List Event). content base es) fresh

pub images_fresh : (base : Image) (events : List Event) → events ≡ [] → (c : Image) → may_leave base events c → c ≡ content base events
unfolding may_leave
images_fresh base events fresh c left = let at_start : may_leave base [] c = subst (λ (es : List Event). may_leave base es c) fresh left in at_start ∙ sym (content_fresh base events fresh)
