-- What the calls leave that make a volume.
use Rattle.std.proofs.Common.{◌≡◌, ◌⊎◌, inl, inr, ℕ, ◌+◌, ◌%◌, [], ◌∷◌, sym, ◌∙◌, ap, subst, arith}
use Rattle.std.proofs.lemmas.Bool.{cases_eq}
use Rattle.rm_types.specs.declared.areas.Area.TheVariants.{Master, Log, Data, Space, Copy}
use Rattle.rm_outside.specs.Images.{Bytes, Image, KeepsOthers, Shows, Torn}
use Rattle.rm_outside.specs.Moments.{ComesBy, joined, weaker}
use Rattle.rm_outside.specs.Calls.{AllLeft, Facts, Writing}
use Rattle.rm_outside.proofs.CallLemmas.{writes_then, writes_weaker}
use Rattle.rm_master.specs.declared.fields.TheConstants.{MADE, MADE_AT, PARITY_AT}
use Rattle.rm_master.specs.Fields.{fresh_fields, slot_bytes}
use Rattle.rm_master.specs.Slots.{slot_at, current, HasSlot, IsUnmade}
use Rattle.rm_master.specs.Steps.{KeepsCopyAndLog, KeepsMaster, KeepsMadeByte}
use Rattle.rm_master.specs.Fresh.{IsZeroBelow, IsCleared, IsFresh, IsReady}

-- ---- what stays

keeps_then : (c d e : Image) → KeepsCopyAndLog c d → KeepsCopyAndLog d e → KeepsCopyAndLog c e
keeps_then c d e one other = record { copy = other.copy ∙ one.copy; log = λ k le. other.log k le ∙ one.log k le }

others_keep : (c d : Image) → KeepsOthers Master c d → KeepsCopyAndLog c d
others_keep c d others = record {
  copy = others.each Copy (λ is. cc);
  log = λ k le. ap (λ (area : Bytes). area k) (others.each Log (λ is. cc));
}

-- ---- what is made

zeros_stay : {old new : Bytes} (len : ℕ) → new ≡ old → IsZeroBelow old len → IsZeroBelow new len
zeros_stay len same zeros = record { each = λ k below. ap (λ (area : Bytes). area k) same ∙ zeros.each k below }

cleared_on : (pages : ℕ) (c d : Image) → KeepsOthers Master c d → IsCleared pages c → IsCleared pages d
cleared_on pages c d others cleared = record {
  gate = λ opened. cleared.gate (sym (ap (λ (area : Bytes). area 0) (others.each Log (λ is. cc))) ∙ opened);
  data_blocks = zeros_stay _ (others.each Data (λ is. cc)) cleared.data_blocks;
  space = zeros_stay _ (others.each Space (λ is. cc)) cleared.space;
}

-- the made byte is the last to be written
made_or_not : (pages : ℕ) (c d : Image) → Torn Master MADE_AT (MADE ∷ []) c d → IsReady pages c → IsUnmade d ⊎ IsFresh pages d
made_or_not pages c d torn ready = elim (cases_eq (d Master MADE_AT) MADE) [
  | inr unmade ↦ inl unmade
  | inl made ↦
      let names : current (d Master) ≡ current (c Master) = ap (λ n. n % 2) (torn.after PARITY_AT (omega arith)) in
      let at_slot : Shows (d Master) (slot_at (current (c Master))) (slot_bytes (fresh_fields pages)) = record {
        each = λ k below. torn.after (slot_at (current (c Master)) + k) (omega arith) ∙ ready.slot.slot.each k below;
      } in
      let P : ℕ → Type 0 = λ n. Shows (d Master) (slot_at n) (slot_bytes (fresh_fields pages)) in
      inr (record {
        fields = record {
          made = made;
          rules = ready.slot.rules;
          slot = subst P (sym names) at_slot;
        };
        cleared = cleared_on pages c d (record { each = torn.areas }) ready.cleared;
      })
]

-- writes whose content and images change by one step
abbrev By : (Image → Image → Type 0) → Facts → Facts → Type 0
By step = Writing step step

keeps_by : {step : Image → Image → Type 0} {a b : Facts} → By step a b → ((x y : Image) → step x y → KeepsCopyAndLog x y) → By KeepsCopyAndLog a b
keeps_by writes keeps = writes_weaker writes keeps keeps

module _ {a b c d : Facts} (clears : By KeepsMaster a b) (slots : By KeepsMadeByte b c) (makes : By (Torn Master MADE_AT (MADE ∷ [])) c d) where
  pub rest_stays : By KeepsCopyAndLog a d
  rest_stays =
      let first = keeps_by clears (λ x y step. step.rest) in
      let second = keeps_by slots (λ x y step. others_keep x y step.others) in
      let last = keeps_by makes (λ x y step. others_keep x y (record { each = step.areas })) in
      writes_then (writes_then first second keeps_then) last keeps_then

  -- until the made byte is written no image is made
  module _ (pages : ℕ) (unmade : (x : Image) → a.may_leave x → IsUnmade x) (ready : (x : Image) → c.may_leave x → IsReady pages x) where
    still_unmade : (x : Image) → ComesBy KeepsMaster a.may_leave x → IsUnmade x
    still_unmade x (from, was, step) made = unmade from was (sym (ap (λ (area : Bytes). area MADE_AT) step.master) ∙ made)

    slot_unmade : (x : Image) → ComesBy KeepsMadeByte b.may_leave x → IsUnmade x
    slot_unmade x (from, was, step) made = still_unmade from (clears.crash.each from was) (sym step.made ∙ made)

    pub made_last : AllLeft a d (λ x. IsUnmade x ⊎ IsFresh pages x)
    made_last = joined (joined (weaker clears.time (λ x comes. inl (still_unmade x comes))) (weaker slots.time (λ x comes. inl (slot_unmade x comes))))
        (weaker makes.time (λ x comes. made_or_not pages comes.0 x comes.2 (ready comes.0 comes.1)))

-- all is synced after the first slot is written, so each image is ready
pub ready_images : {b c : Facts} (pages : ℕ) → Writing KeepsMadeByte KeepsMadeByte b c
    → (b.models_content → IsCleared pages b.content) → (c.models_content → HasSlot (c.content Master) (fresh_fields pages))
    → ((x : Image) → c.may_leave x → x ≡ c.content) → ((x : Image) → c.may_leave x → c.models_content) → (x : Image) → c.may_leave x
    → IsReady pages x
ready_images pages slots cleared slot synced modelled x now =
    let P : Image → Type 0 = λ image. IsReady pages image in
    let models = modelled x now in
    subst P (sym (synced x now)) (record { slot = slot models; cleared = cleared_on pages _ _ slots.content.others (cleared (slots.modelled models)) })

-- where all is synced and the volume is not made, no image is
pub unmade_images : {models : Type 0} (content : Image) (may_leave : Image → Type 0) → ((x : Image) → may_leave x → x ≡ content)
    → ((x : Image) → may_leave x → models)
    → (models → IsUnmade content) → (x : Image) → may_leave x → IsUnmade x
unmade_images content may_leave synced modelled unmade x now made =
    unmade (modelled x now) (sym (ap (λ (image : Image). image Master MADE_AT) (synced x now)) ∙ made)
