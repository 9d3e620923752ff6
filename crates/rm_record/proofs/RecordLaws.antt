-- A record that is read is the record that was written, and what was written is read again.
use Rattle.std.proofs.Common.{◌≡◌, ℕ, suc, ◌-◌, ◌^◌, ◌<◌, ◌≤◌, List, [], ◌∷◌, ◌++◌, eqb, cond, Option, Some, None, refl, sym, subst, arith, inl, inr}
use Rattle.std.specs.Int.{w32, w64, to_be_bytes}
use Rattle.std.proofs.lemmas.Bool.{eqb-true}
use Rattle.rm_types.specs.declared.numbers.TxnId.{TxnId}
use Rattle.rm_types.specs.declared.numbers.Lsn.{Lsn}
use Rattle.rm_types.specs.declared.numbers.Rid.{Rid}
use Rattle.rm_record.specs.declared.records.TheConstants.{MAX_RECORDED_CATEGORY}
use Rattle.rm_types.specs.declared.numbers.TheConstants.{MAX_PAGES, MAX_BLOCKS}
use Rattle.rm_types.specs.declared.places.Place.{Place}
use Rattle.rm_types.specs.declared.slots.Slot.{Slot}
use Rattle.rm_record.specs.declared.fields.Change.{Change}
use Rattle.rm_record.specs.declared.records.LogRecord.{LogRecord}
use Rattle.rm_record.specs.declared.records.LogRecord.TheVariants as log
use Rattle.rm_record.specs.Places.{places_bytes, ArePlaces}
use Rattle.rm_record.specs.Records.{AreBytes, IsTxn, IsRid, IsRow, IsSlot, IsChange, IsRecord, rid_bytes, row_bytes, slot_bytes, change_bytes, spelling}
use Rattle.rm_record.specs.Fields.{Reads, made}
use Rattle.rm_record.specs.Reading.{row_parts, insert_fields, delete_fields, update_parts, update_fields, compensate_parts}
use Rattle.rm_record.specs.Reading.{compensate_fields, inventory_parts, inventory_fields, commit_fields, end_fields}
use Rattle.rm_record.specs.Reading.{checkpoint_parts, checkpoint_fields, fields_of, record_field}
use Rattle.rm_record.proofs.FieldLaws.{bind_some, some_is, Takes, Takes-after, IsField, both_is, chosen, nothing, txn_is, lsn_is}
use Rattle.rm_record.proofs.FieldLaws.{page_is, rid_is, change_is, row_is, slot_is, category_is, next_is}
use Rattle.rm_record.proofs.PlaceLaws.{places_are}

-- what is read after a kind is a record of that kind
abbrev Kind : ℕ → Reads LogRecord → Type 0
Kind kind fields = (bytes : List ℕ) (x : LogRecord × List ℕ) → AreBytes bytes → fields bytes ≡ Some x → Takes (kind ∷ bytes) (spelling x.0) x.1 × IsRecord x.0

-- a kind by its fields
kind_of : {A : Type 0} (kind : ℕ) (make : A → LogRecord) {parts : Reads A} {text : A → List ℕ} {Has : A → Type 0} → IsField parts text Has
    → ((y : A) → spelling (make y) ≡ kind ∷ text y) → ((y : A) → Has y → IsRecord (make y)) → Kind kind (made make parts)
kind_of {A} kind make {parts} {text} {Has} are spelled has bytes x fits e =
    let a = bind_some (parts bytes) (λ p. Some (make p.0, p.1)) x e in
    let t = are.takes bytes a.0 fits a.1 in
    let found : LogRecord × List ℕ = (make a.0.0, a.0.1) in
    let whole = subst (λ (l : List ℕ). Takes (kind ∷ bytes) l a.0.1) (sym (spelled a.0.0)) (Takes-after kind bytes (text a.0.0) a.0.1 t.0) in
    subst (λ (y : LogRecord × List ℕ). Takes (kind ∷ bytes) (spelling y.0) y.1 × IsRecord y.0) (some_is found x a.2) (whole, has a.0.0 t.1)

-- ---- each kind

abbrev change_text : Change → List ℕ
change_text change = change_bytes change.txn change.under change.rid change.need

abbrev IsAnyChange : Change → Type 0
IsAnyChange change = IsChange change.txn change.under change.rid change.need

row_parts_are : IsField row_parts (λ p. change_text p.0 ++ row_bytes p.1) (λ p. IsAnyChange p.0 × IsRow p.1)
row_parts_are = both_is change_is row_is

insert_takes : Kind 1 insert_fields
unfolding insert_fields
insert_takes = kind_of 1 (λ (p : Change × List ℕ). log.Insert p.0.txn p.0.under p.0.rid p.0.need p.1) row_parts_are (λ p. refl) (λ p has. has)

delete_takes : Kind 2 delete_fields
unfolding delete_fields
delete_takes = kind_of 2 (λ (p : Change × List ℕ). log.Delete p.0.txn p.0.under p.0.rid p.0.need p.1) row_parts_are (λ p. refl) (λ p has. has)

update_parts_are : IsField update_parts (λ p. change_text p.0 ++ (row_bytes p.1.0 ++ row_bytes p.1.1)) (λ p. IsAnyChange p.0 × (IsRow p.1.0 × IsRow p.1.1))
update_parts_are = both_is change_is (both_is row_is row_is)

update_takes : Kind 3 update_fields
unfolding update_fields
update_takes =
    kind_of 3 (λ (p : Change × (List ℕ × List ℕ)). log.Update p.0.txn p.0.under p.0.rid p.0.need p.1.0 p.1.1) update_parts_are (λ p. refl)
    (λ p has. has)

compensate_parts_are : IsField compensate_parts
    (λ p. to_be_bytes w32 p.0.0 ++ (to_be_bytes w64 p.1.0.0 ++ (to_be_bytes w64 p.1.1.0.0 ++ (rid_bytes p.1.1.1.0 ++ slot_bytes p.1.1.1.1))))
    (λ p. IsTxn p.0 × ((p.1.0.0 < 2 ^ 64) × ((p.1.1.0.0 < 2 ^ 64) × (IsRid p.1.1.1.0 × IsSlot p.1.1.1.1))))
compensate_parts_are = both_is txn_is (both_is lsn_is (both_is lsn_is (both_is rid_is slot_is)))

compensate_takes : Kind 4 compensate_fields
unfolding compensate_fields
compensate_takes =
    kind_of 4 (λ (p : TxnId × (Lsn × (Lsn × (Rid × Slot)))). log.Compensate p.0 p.1.0 p.1.1.0 p.1.1.1.0 p.1.1.1.1) compensate_parts_are (λ p. refl)
    (λ p has. record { by = has.0; undoes = has.1.0; above = has.1.1.0; place = has.1.1.1.0; held = has.1.1.1.1 })

inventory_parts_are : IsField inventory_parts (λ p. to_be_bytes w32 p.0.0 ++ (to_be_bytes w32 p.1.0 ++ p.1.1 ∷ []))
    (λ p. IsTxn p.0 × ((p.1.0 < MAX_PAGES) × (p.1.1 ≤ MAX_RECORDED_CATEGORY)))
inventory_parts_are = both_is txn_is (both_is page_is category_is)

inventory_takes : Kind 5 inventory_fields
unfolding inventory_fields
inventory_takes =
    kind_of 5 (λ (p : TxnId × (ℕ × ℕ)). log.Inventory p.0 p.1.0 p.1.1) inventory_parts_are (λ p. refl)
    (λ p has. record { by = has.0; page_in = has.1.0; category_in = has.1.1 })

commit_takes : Kind 6 commit_fields
unfolding commit_fields
commit_takes = kind_of 6 (λ txn. log.Commit txn) txn_is (λ txn. refl) (λ txn has. has)

end_takes : Kind 7 end_fields
unfolding end_fields
end_takes = kind_of 7 (λ txn. log.End txn) txn_is (λ txn. refl) (λ txn has. has)

checkpoint_parts_are : IsField checkpoint_parts (λ p. to_be_bytes w64 p.0 ++ (places_bytes p.1.0 ++ (places_bytes p.1.1.0 ++ places_bytes p.1.1.1)))
    (λ p. ((0 < p.0) × (p.0 ≤ 2 ^ 32)) × (ArePlaces 1 (2 ^ 32 - 1) p.1.0 × (ArePlaces 0 (MAX_PAGES - 1) p.1.1.0 × ArePlaces 0 (MAX_BLOCKS - 1) p.1.1.1)))
checkpoint_parts_are =
    both_is next_is (both_is (places_are 1 (2 ^ 32 - 1) (omega arith))
    (both_is (places_are 0 (MAX_PAGES - 1) (omega arith)) (places_are 0 (MAX_BLOCKS - 1) (omega arith))))

checkpoint_takes : Kind 8 checkpoint_fields
unfolding checkpoint_fields
checkpoint_takes =
    kind_of 8 (λ (p : ℕ × (List Place × (List Place × List Place))). log.Checkpoint p.0 p.1.0 p.1.1.0 p.1.1.1) checkpoint_parts_are (λ p. refl)
    (λ p has. record { next_in = has.0; losers_in = has.1.0; pages_in = has.1.1.0; blocks_in = has.1.1.1 })

-- ---- any kind

-- the kind, or what is read of the others
first_kind : (expected kind : ℕ) (fields : Reads LogRecord) (others : Option (LogRecord × List ℕ)) (bytes : List ℕ) (x : LogRecord × List ℕ)
    → AreBytes bytes → Kind expected fields
    → (others ≡ Some x → Takes (kind ∷ bytes) (spelling x.0) x.1 × IsRecord x.0) → cond (eqb kind expected) (fields bytes) others ≡ Some x
    → Takes (kind ∷ bytes) (spelling x.0) x.1 × IsRecord x.0
first_kind expected kind fields others bytes x fits here other e =
    elim (chosen (eqb kind expected) (fields bytes) others x e) [
      | inl is ↦ subst (λ k. Takes (k ∷ bytes) (spelling x.0) x.1 × IsRecord x.0) (sym (eqb-true kind expected is.0)) (here bytes x fits is.1)
      | inr not ↦ other not.1
    ]

fields_take : (kind : ℕ) → Kind kind (fields_of kind)
unfolding fields_of
fields_take kind bytes x fits =
    first_kind 1 kind insert_fields _ bytes x fits insert_takes
    (first_kind 2 kind delete_fields _ bytes x fits delete_takes
    (first_kind 3 kind update_fields _ bytes x fits update_takes
    (first_kind 4 kind compensate_fields _ bytes x fits compensate_takes
    (first_kind 5 kind inventory_fields _ bytes x fits inventory_takes
    (first_kind 6 kind commit_fields _ bytes x fits commit_takes
    (first_kind 7 kind end_fields _ bytes x fits end_takes
    (first_kind 8 kind checkpoint_fields None bytes x fits checkpoint_takes (nothing x))))))))

pub record_takes : (bytes : List ℕ) (x : LogRecord × List ℕ) → AreBytes bytes → record_field bytes ≡ Some x → Takes bytes (spelling x.0) x.1 × IsRecord x.0
record_takes [] x fits e = nothing x e
record_takes (kind ∷ rest) x fits e = fields_take kind rest x (λ i. fits (suc i)) e

pub record_again : (logged : LogRecord) (rest : List ℕ) → IsRecord logged → record_field (spelling logged ++ rest) ≡ Some (logged, rest)
unfolding fields_of insert_fields delete_fields update_fields compensate_fields inventory_fields commit_fields end_fields checkpoint_fields
record_again (log.Insert txn under rid need row) rest h =
    rw (row_parts_are.again (record { txn = txn; under = under; rid = rid; need = need }, row) rest h) refl
record_again (log.Delete txn under rid need row) rest h =
    rw (row_parts_are.again (record { txn = txn; under = under; rid = rid; need = need }, row) rest h) refl
record_again (log.Update txn under rid need before after) rest h =
    rw (update_parts_are.again (record { txn = txn; under = under; rid = rid; need = need }, (before, after)) rest h) refl
record_again (log.Compensate txn undone next rid back) rest h =
    rw (compensate_parts_are.again (txn, (undone, (next, (rid, back)))) rest (h.by, (h.undoes, (h.above, (h.place, h.held))))) refl
record_again (log.Inventory txn page category) rest h = rw (inventory_parts_are.again (txn, (page, category)) rest (h.by, (h.page_in, h.category_in))) refl
record_again (log.Commit txn) rest h = rw (txn_is.again txn rest h) refl
record_again (log.End txn) rest h = rw (txn_is.again txn rest h) refl
record_again (log.Checkpoint next losers pages blocks) rest h =
    rw (checkpoint_parts_are.again (next, (losers, (pages, blocks))) rest (h.next_in, (h.losers_in, (h.pages_in, h.blocks_in)))) refl
