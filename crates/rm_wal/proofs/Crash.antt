-- What a crash leaves in each of the two steps of a flush.
use Rattle.std.proofs.Common.{◌≡◌, ℕ, ◌+◌, false, List, [], ◌∷◌, inl, inr, ap, ◌∙◌, arith}
use Rattle.rm_types.specs.declared.areas.Area.TheVariants.{Log}
use Rattle.rm_outside.specs.Images.{Image, KeepsOthers, Shows, Torn}
use Rattle.rm_outside.specs.Moments.{ComesBy, IsDurable, joined, weaker}
use Rattle.rm_outside.specs.Calls.{Facts, Reading, Writing}
use Rattle.rm_outside.proofs.CallLemmas.{counts_then, writes_synced, writes_weaker}
use Rattle.rm_wal.specs.Flushing.{FlushStep, ComesByFlush, IsFlushed}

-- the image comes by the flush, and what was written stands after the gate
record IsStaged (gate : ℕ) (written : List ℕ) (left : Image → Type 0) (c : Image) : Type 0 where
  comes : ComesByFlush gate written left c
  shown : Shows (c Log) (gate + 1) written

-- a byte of an image that has the log of the content, which stayed
byte_of : (c : Image) {content was : Image} (k : ℕ) → c Log ≡ content Log → content ≡ was → c Log k ≡ was Log k
byte_of c k same stayed = ap (λ (area : ℕ → ℕ). area k) same ∙ ap (λ (image : Image). image Log k) stayed

module _ {gate : ℕ} {written : List ℕ} where
  tail_torn : (c d : Image) → Torn Log (gate + 1) written c d → FlushStep gate written c d
  tail_torn c d torn = record {
    others = record { each = torn.areas };
    below = λ k lt. torn.before k (omega arith);
    gate_is = inl (torn.before gate (omega arith));
  }

  -- the tail is written, in part or whole, after a gate that is as it was
  pub tail_written : {a b : Facts} → Writing (Torn Log (gate + 1) written) (Torn Log (gate + 1) written) a b
      → Writing (FlushStep gate written) (FlushStep gate written) a b
  tail_written writes = writes_weaker writes tail_torn tail_torn

  pub others_stay : {a b : Facts} → Writing (FlushStep gate written) (FlushStep gate written) a b
      → Writing (KeepsOthers Log) (FlushStep gate written) a b
  others_stay writes = writes_weaker writes (λ c d step. step.others) (λ c d step. step)

  -- the gate is torn before a tail that is durable
  gate_torn : {left half : Image → Type 0} → ((c : Image) → half c → IsStaged gate written left c) → (c : Image)
      → ComesBy (Torn Log gate (1 ∷ [])) half c → IsStaged gate written left c
  gate_torn staged c (d, was, torn) =
      let before = staged d was in
      let shown : Shows (c Log) (gate + 1) written = record {
        each = λ k lt. torn.after (gate + 1 + k) (omega arith) ∙ before.shown.each k lt;
      } in
      let step = before.comes.2 in
      record {
        comes = (
          before.comes.0,
          before.comes.1,
          record {
            others = record { each = λ other apart. torn.areas other apart ∙ step.others.each other apart };
            below = λ k lt. torn.before k lt ∙ step.below k lt;
            gate_is = inr shown;
          },
        );
        shown = shown;
      }

  -- The tail is written and synced, and then the gate is written. The bytes stand where the volume models its content.
  module _ {a b c d : Facts} (writes : Writing (Torn Log (gate + 1) written) (Torn Log (gate + 1) written) a b)
      (bytes : b.models_content → Shows (b.content Log) (gate + 1) written) (syncs : Reading false false b c)
      (durable : IsDurable Log c.content c.may_leave) (only : (x : Image) → c.may_leave x → c.models_content)
      (opens : Writing (Torn Log gate (1 ∷ [])) (Torn Log gate (1 ∷ [])) c d) where
    tail : Writing (FlushStep gate written) (FlushStep gate written) a c
    tail = writes_synced (tail_written writes) syncs

    staged : (x : Image) → c.may_leave x → IsStaged gate written a.may_leave x
    staged x now = record {
      comes = tail.crash.each x now;
      shown = record { each = λ k lt. byte_of x (gate + 1 + k) (durable.each x now) syncs.content ∙ (bytes (syncs.modelled (only x now))).each k lt };
    }

    pub gate_written : Writing (KeepsOthers Log) (FlushStep gate written) a d
    gate_written = record {
      modelled = λ models. tail.modelled (opens.modelled models);
      content = record { each = λ other apart. opens.content.areas other apart ∙ tail.content.others.each other apart };
      crash = record { each = λ x now. (gate_torn staged x (opens.crash.each x now)).comes };
      time = joined tail.time (weaker opens.time (λ x comes. (gate_torn staged x comes).comes));
      counts = counts_then tail.counts opens.counts;
    }

    -- and synced
    module _ {e : Facts} (last : Reading false false d e) where
      pub gate_opened : (d.models_content → Shows (d.content Log) gate (1 ∷ [])) → ((x : Image) → e.may_leave x → e.models_content)
          → IsDurable Log e.content e.may_leave
          → (x : Image) → e.may_leave x → IsFlushed gate written x
      gate_opened byte modelled synced x now =
          let here : gate ≡ gate + 0 = omega arith in
          let opened = byte_of x gate (synced.each x now) last.content ∙ ap (d.content Log) here ∙ (byte (last.modelled (modelled x now))).each 0 (omega arith) in
          record { opened = opened; shown = (gate_torn staged x (opens.crash.each x (last.crash.each x now))).shown }
