-- What writes to the master leave.
use Rattle.std.proofs.Common.{◌≡◌, ℕ, ◌+◌, ◌-◌, ◌%◌, ◌≤◌, ◌<◌, ◌⊎◌, inl, inr, List, [], ◌∷◌, refl, sym, ◌∙◌, ap, subst, arith}
use Rattle.std.proofs.lemmas.Bool.{cases_eq}
use Rattle.rm_types.specs.declared.areas.Area.TheVariants.{Master}
use Rattle.rm_types.specs.declared.numbers.TheConstants.{MAX_PAGES}
use Rattle.rm_outside.specs.Images.{Bytes, Image, KeepsOthers, Shows, Torn}
use Rattle.rm_outside.specs.Moments.{ComesBy, joined, weaker}
use Rattle.rm_outside.specs.Calls.{Facts, Writing}
use Rattle.rm_outside.proofs.CallLemmas.{counts_then}
use Rattle.rm_master.specs.declared.fields.Fields.{Fields}
use Rattle.rm_master.specs.declared.fields.TheConstants.{MADE, MADE_AT, PARITY_AT}
use Rattle.rm_master.specs.Fields.{IsFields, slot_bytes, fresh_fields}
use Rattle.rm_master.specs.Slots.{slot_at, current, HasSlot, HasFields, Stands, GoesTo}
use Rattle.rm_master.proofs.SlotLemmas.{length-slot_bytes}

-- the fields of a new volume keep the rules
pub fresh-IsFields : (pages : ℕ) → 1 ≤ pages → pages ≤ MAX_PAGES → IsFields (fresh_fields pages)
fresh-IsFields pages some few = record {
  file = record { known = refl; some_pages = some; few_pages = few };
  checkpoint = record { batch_within = omega arith; within = omega arith; none = λ _. refl; after_batch = λ some. absurd (some refl) };
  copy = record { known = omega arith; start_within = omega arith; copied_within = omega arith; some_copied = λ some. absurd (some refl); not_restoring = λ _. refl; no_start = λ _. refl; none_copied = λ _. refl };
}

-- a write of the parity byte leaves the slots
pub slot_kept : (slot parity : ℕ) (old new : Image) (bytes : List ℕ) → Torn Master PARITY_AT (parity ∷ []) old new
    → Shows (old Master) (slot_at slot) bytes → Shows (new Master) (slot_at slot) bytes
slot_kept slot parity old new bytes torn shown = record { each = λ k below. torn.after (slot_at slot + k) (omega arith) ∙ shown.each k below }

-- a slot and the parity byte that names it
pub named_slot : (slot : ℕ) (area : Bytes) (fields : Fields) → IsFields fields → current area ≡ slot
    → Shows area (slot_at slot) (slot_bytes fields) → HasSlot area fields
named_slot slot area fields rules names shown = record {
  rules = rules;
  slot = let P : ℕ → Type 0 = λ n. Shows area (slot_at n) (slot_bytes fields) in subst P (sym names) shown;
}

-- a torn write keeps the other areas
torn_others : (at : ℕ) (bytes : List ℕ) (old new : Image) → Torn Master at bytes old new → KeepsOthers Master old new
torn_others at bytes old new torn = record { each = torn.areas }

-- a write of the other slot leaves the current one
pub stands_on : (slot : ℕ) (fields next : Fields) (old new : Image) → slot < 2
    → Torn Master (slot_at (1 - slot)) (slot_bytes next) old new → Stands slot fields (old Master)
    → Stands slot fields (new Master)
stands_on slot fields next old new small torn stands =
    let len = length-slot_bytes next in
    let front : (k : ℕ) → k < 64 → new Master k ≡ old Master k = λ k below. torn.before k (omega arith) in
    let names : current (new Master) ≡ current (old Master) = ap (λ n. n % 2) (front PARITY_AT (omega arith)) in
    let at_slot : Shows (old Master) (slot_at slot) (slot_bytes fields) =
    let P : ℕ → Type 0 = λ n. Shows (old Master) (slot_at n) (slot_bytes fields) in subst P stands.is_current stands.has.slot in
    let shown : Shows (new Master) (slot_at slot) (slot_bytes fields) = record { each = λ k below. in_slot k (omega (arith, length-slot_bytes fields)) ∙ at_slot.each k below } in
    let is : current (new Master) ≡ slot = names ∙ stands.is_current in
    record {
      is_current = is;
      has = record {
        made = front MADE_AT (omega arith) ∙ stands.has.made;
        rules = stands.has.rules;
        slot = (named_slot slot (new Master) fields stands.has.rules is shown).slot;
      };
    }
  where
    in_slot : (k : ℕ) → k < 36 → new Master (slot_at slot + k) ≡ old Master (slot_at slot + k)
    in_slot k below = elim (cases_eq slot 0) [
      | inl first ↦ torn.before (slot_at slot + k) (omega arith)
      | inr second ↦ torn.after (slot_at slot + k) (omega (arith, length-slot_bytes next))
    ]

-- so it goes to either
pub slot_goes : (slot : ℕ) (fields next : Fields) (old new : Image) → slot < 2
    → Torn Master (slot_at (1 - slot)) (slot_bytes next) old new → Stands slot fields (old Master) → GoesTo fields next old new
slot_goes slot fields next old new small torn stands = record {
  others = torn_others _ _ _ _ torn;
  master = inl (stands_on slot fields next old new small torn stands).has;
}

-- whatever the parity byte is, it names the old slot or the next one
pub parity_goes : (slot : ℕ) (fields next : Fields) (old new : Image) → slot < 2 → IsFields next
    → Torn Master PARITY_AT ((1 - slot) ∷ []) old new → Stands slot fields (old Master)
    → Shows (old Master) (slot_at (1 - slot)) (slot_bytes next) → HasFields (new Master) fields ⊎ HasFields (new Master) next
parity_goes slot fields next old new small rules torn stands shown = elim (cases_eq (current (new Master)) slot) [
  | inl is_old ↦ inl (record { made = made; rules = stands.has.rules; slot = (named_slot slot (new Master) fields stands.has.rules is_old (slot_kept slot _ old new _ torn at_slot)).slot })
  | inr is_other ↦
      let is_next : current (new Master) ≡ 1 - slot = omega arith in
      inr (record { made = made; rules = rules; slot = (named_slot (1 - slot) (new Master) next rules is_next (slot_kept (1 - slot) _ old new _ torn shown)).slot })
]
  where
    made : new Master MADE_AT ≡ MADE
    made = torn.before MADE_AT (omega arith) ∙ stands.has.made

    at_slot : Shows (old Master) (slot_at slot) (slot_bytes fields)
    at_slot = let P : ℕ → Type 0 = λ n. Shows (old Master) (slot_at n) (slot_bytes fields) in subst P stands.is_current stands.has.slot

-- the calls of a master's write
module _ (slot : ℕ) (fields next : Fields) (small : slot < 2) (rules : IsFields next) {a b : Facts}
    (stand : (c : Image) → a.may_leave c → Stands slot fields (c Master))
    (first : Writing (Torn Master (slot_at (1 - slot)) (slot_bytes next)) (Torn Master (slot_at (1 - slot)) (slot_bytes next)) a b) where
  goes_first : (c : Image) → ComesBy (Torn Master (slot_at (1 - slot)) (slot_bytes next)) a.may_leave c → ComesBy (GoesTo fields next) a.may_leave c
  goes_first c (d, was, torn) = (d, was, slot_goes slot fields next d c small torn (stand d was))

  -- after the slot is written
  pub slot_written : Writing (KeepsOthers Master) (GoesTo fields next) a b
  slot_written = record {
    modelled = first.modelled;
    content = torn_others _ _ _ _ first.content;
    crash = record { each = λ c now. goes_first c (first.crash.each c now) };
    time = weaker first.time goes_first;
    counts = first.counts;
  }

  -- and after the parity byte is
  module _ {e : Facts} (shown : (c : Image) → b.may_leave c → Shows (c Master) (slot_at (1 - slot)) (slot_bytes next))
      (second : Writing (Torn Master PARITY_AT ((1 - slot) ∷ [])) (Torn Master PARITY_AT ((1 - slot) ∷ [])) b e) where
    goes_second : (c : Image) → ComesBy (Torn Master PARITY_AT ((1 - slot) ∷ [])) b.may_leave c → ComesBy (GoesTo fields next) a.may_leave c
    goes_second c (half, now, torn) =
        let before = first.crash.each half now in
        let stands = stands_on slot fields next before.0 half small before.2 (stand before.0 before.1) in (
          before.0,
          before.1,
          record {
            others = record { each = λ other ne. torn.areas other ne ∙ before.2.areas other ne };
            master = parity_goes slot fields next half c small rules torn stands (shown half now);
          },
        )

    pub parity_written : Writing (KeepsOthers Master) (GoesTo fields next) a e
    parity_written = record {
      modelled = λ models. first.modelled (second.modelled models);
      content = record { each = λ other ne. second.content.areas other ne ∙ first.content.areas other ne };
      crash = record { each = λ c now. goes_second c (second.crash.each c now) };
      time = joined slot_written.time (weaker second.time goes_second);
      counts = counts_then first.counts second.counts;
    }
