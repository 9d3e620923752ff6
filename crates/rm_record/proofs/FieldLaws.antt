-- A field that is read is the field that was written, and what was written is read again.
use Rattle.std.proofs.Common.{◌≡◌, ℕ, suc, ◌+◌, ◌-◌, ◌^◌, ◌<◌, ◌≤◌, Bool, true, false, cond, ltb, eqb, List, [], ◌∷◌, ◌++◌}
use Rattle.std.proofs.Common.{length, take, drop, Option, Some, None, ◌⊎◌, refl, sym, ap, subst, ◌∙◌, append_assoc, arith, inl, inr}
use Rattle.std.specs.Prelude.{nat_le, nat_lt}
use Rattle.std.specs.Int.{Width, w16, w32, w64, byte_len, from_be_bytes, to_be_bytes}
use Rattle.std.proofs.lemmas.Bool.{cases_lt, ltb-false, ltb-true, le-ltb, lt-ltb, leb-true, le-leb, eqb-true}
use Rattle.std.proofs.lemmas.List.{take_at, drop_at, take-append-drop, length-append, length-take, get_or-drop, get_or-take, get_or_past}
use Rattle.std.proofs.lemmas.Nat.{be_bytes_2, be_bytes_4, be_bytes_8, from_be_bytes-to_be_bytes_2, from_be_bytes-to_be_bytes_4, from_be_bytes-to_be_bytes_8}
use Rattle.rm_types.specs.declared.numbers.TxnId.{TxnId}
use Rattle.rm_types.specs.declared.numbers.Lsn.{Lsn}
use Rattle.rm_types.specs.declared.numbers.Rid.{Rid}
use Rattle.rm_record.specs.declared.records.TheConstants.{MAX_RECORDED_CATEGORY}
use Rattle.rm_types.specs.declared.numbers.TheConstants.{MAX_PAGES, MAX_SLOT}
use Rattle.rm_types.specs.declared.slots.Slot.{Slot}
use Rattle.rm_types.specs.declared.slots.Slot.TheVariants as slot
use Rattle.rm_types.specs.declared.slots.TheConstants.{CAPACITY}
use Rattle.rm_types.specs.declared.rows.TheConstants.{MAX_ROW}
use Rattle.rm_record.specs.declared.fields.Change.{Change}
use Rattle.rm_record.specs.Records.{AreBytes, IsTxn, IsRid, IsRow, IsSlot, IsChange, rid_bytes, row_bytes, slot_bytes, change_bytes}
use Rattle.rm_record.specs.Fields.{◌>>=◌, Reads, kept, made, both, byte_field, number_field, number_up_to, number_between}
use Rattle.rm_record.specs.Fields.{txn_field, lsn_field, page_field, rid_field, need_field, change_field, row_field, slot_field, category_field, next_field}

AreBytes-drop : (n : ℕ) (bytes : List ℕ) → AreBytes bytes → AreBytes (drop n bytes)
AreBytes-drop n bytes h i = rw get_or-drop (h (n + i))

AreBytes-take : (n : ℕ) (bytes : List ℕ) → AreBytes bytes → AreBytes (take n bytes)
AreBytes-take n bytes h i =
    elim (cases_lt i n) [
      | inl lt ↦ rw (get_or-take n bytes i 0 lt) (h i)
      | inr le ↦ rw (get_or_past (take n bytes) i 0 (omega (arith, length-take n bytes))) (omega arith)
    ]

-- the value of a step that gave one
pub bind_some : {A B : Type 0} (r : Option A) (f : A → Option B) (y : B) → (r >>= f) ≡ Some y → (x : A) × (r ≡ Some x) × (f x ≡ Some y)
bind_some (Some x) f y e = (x, refl, e)
bind_some None f y e = absurd cc

-- a test that was passed, and one that was not failed
passed : {A : Type 0} (b : Bool) (x y : A) → cond b (Some x) None ≡ Some y → (b ≡ true) × (x ≡ y)
passed true x y e = (refl, cc)
passed false x y e = absurd cc

not_failed : {A : Type 0} (b : Bool) (x y : A) → cond b None (Some x) ≡ Some y → (b ≡ false) × (x ≡ y)
not_failed true x y e = absurd cc
not_failed false x y e = (refl, cc)

abbrev some : {A : Type 0} → A → Option A
some x = Some x

pub some_is : {A : Type 0} (x y : A) → some x ≡ some y → x ≡ y
some_is x y e = cc

-- what was taken from the start
pub record Takes (bytes text rest : List ℕ) : Type 0 where
  pub parts : bytes ≡ text ++ rest
  pub rest_fits : AreBytes rest

pub Takes-then : (a x b y c : List ℕ) → Takes a x b → Takes b y c → Takes a (x ++ y) c
Takes-then a x b y c p q = record { parts = p.parts ∙ ap (λ (t : List ℕ). x ++ t) q.parts ∙ sym (append_assoc x y c); rest_fits = q.rest_fits }

-- the field reads what the text spells, and nothing else
pub record IsField {A : Type 0} (field : Reads A) (text : A → List ℕ) (Has : A → Type 0) : Type 0 where
  pub takes : (bytes : List ℕ) (x : A × List ℕ) → AreBytes bytes → field bytes ≡ Some x → Takes bytes (text x.0) x.1 × Has x.0
  pub again : (x : A) (rest : List ℕ) → Has x → field (text x ++ rest) ≡ Some (x, rest)

-- a field under a text and ranges in other words
pub said_is : {A : Type 0} {field : Reads A} {s t : A → List ℕ} {P Q : A → Type 0} → ((x : A) → s x ≡ t x) → ((x : A) → P x → Q x)
    → ((x : A) → Q x → P x) → IsField field s P → IsField field t Q
said_is {A} {field} {s} {t} {P} {Q} same there back first = record {
  takes = λ bytes x fits e.
      let p = first.takes bytes x fits e in
      (subst (λ (l : List ℕ). Takes bytes l x.1) (same x.0) p.0, there x.0 p.1);
  again = λ x rest h. ap (λ (l : List ℕ). field (l ++ rest)) (sym (same x)) ∙ first.again x rest (back x h);
}

pub both_is : {A B : Type 0} {f : Reads A} {g : Reads B} {s : A → List ℕ} {t : B → List ℕ} {P : A → Type 0} {Q : B → Type 0} → IsField f s P
    → IsField g t Q → IsField (both f g) (λ p. s p.0 ++ t p.1) (λ p. P p.0 × Q p.1)
both_is {A} {B} {f} {g} {s} {t} {P} {Q} first second = record {
  takes = λ bytes x fits e.
      let a = bind_some (f bytes) (λ v. g v.1 >>= λ w. Some ((v.0, w.0), w.1)) x e in
      let b = bind_some (g a.0.1) (λ w. Some ((a.0.0, w.0), w.1)) x a.2 in
      let p = first.takes bytes a.0 fits a.1 in
      let q = second.takes a.0.1 b.0 p.0.rest_fits b.1 in
      let whole = Takes-then bytes (s a.0.0) a.0.1 (t b.0.0) b.0.1 p.0 q.0 in
      let found : (A × B) × List ℕ = ((a.0.0, b.0.0), b.0.1) in
      subst (λ (y : (A × B) × List ℕ). Takes bytes (s y.0.0 ++ t y.0.1) y.1 × (P y.0.0 × Q y.0.1)) (some_is found x b.2) (whole, (p.1, q.1));
  again = λ x rest h. ap (both f g) (append_assoc (s x.0) (t x.1) rest) ∙ rw (first.again x.0 (t x.1 ++ rest) h.0, second.again x.1 rest h.1) refl;
}

pub made_is : {A B : Type 0} (make : A → B) (part : B → A) {f : Reads A} {s : A → List ℕ} {P : A → Type 0} → ((x : A) → part (make x) ≡ x)
    → ((y : B) → make (part y) ≡ y) → IsField f s P → IsField (made make f) (λ y. s (part y)) (λ y. P (part y))
made_is {A} {B} make part {f} {s} {P} there back first = record {
  takes = λ bytes x fits e.
      let a = bind_some (f bytes) (λ v. Some (make v.0, v.1)) x e in
      let p = first.takes bytes a.0 fits a.1 in
      let found : B × List ℕ = (make a.0.0, a.0.1) in
      subst (λ (y : B × List ℕ). Takes bytes (s (part y.0)) y.1 × P (part y.0)) (some_is found x a.2)
      (subst (λ (v : A). Takes bytes (s v) a.0.1 × P v) (sym (there a.0.0)) p);
  again = λ y rest h. rw (first.again (part y) rest h, back y) refl;
}

pub kept_is : {A : Type 0} (passes : A → Bool) (Q : A → Type 0) {f : Reads A} {s : A → List ℕ} {P : A → Type 0}
    → ((x : A) → P x → passes x ≡ true → Q x) → ((x : A) → Q x → P x × (passes x ≡ true)) → IsField f s P → IsField (kept passes f) s Q
kept_is {A} passes Q {f} {s} {P} tells told first = record {
  takes = λ bytes x fits e.
      let a = bind_some (f bytes) (λ v. cond (passes v.0) (Some v) None) x e in
      let g = passed (passes a.0.0) a.0 x a.2 in
      let p = first.takes bytes a.0 fits a.1 in
      subst (λ (y : A × List ℕ). Takes bytes (s y.0) y.1 × Q y.0) g.1 (p.0, tells a.0.0 p.1 g.0);
  again = λ x rest h. rw (first.again x rest (told x h).0, (told x h).1) refl;
}

-- ---- numbers

pub record IsWide (w : Width) (limit : ℕ) : Type 0 where
  pub len : (n : ℕ) → length (to_be_bytes w n) ≡ byte_len w
  pub back : (bytes : List ℕ) → length bytes ≡ byte_len w → AreBytes bytes → to_be_bytes w (from_be_bytes w bytes) ≡ bytes
  pub again : (n : ℕ) → n < limit → from_be_bytes w (to_be_bytes w n) ≡ n
  pub below : (bytes : List ℕ) → AreBytes bytes → from_be_bytes w bytes < limit

pub wide16 : IsWide w16 (2 ^ 16)
wide16 = record {
  len = λ n. refl;
  back = λ bytes len fits. be_bytes_2 bytes _ len fits refl;
  again = λ n lt. from_be_bytes-to_be_bytes_2 n lt;
  below = λ bytes fits. omega (arith, fits 0, fits 1);
}

pub wide32 : IsWide w32 (2 ^ 32)
wide32 = record {
  len = λ n. refl;
  back = λ bytes len fits. be_bytes_4 bytes _ len fits refl;
  again = λ n lt. from_be_bytes-to_be_bytes_4 n lt;
  below = λ bytes fits. omega (arith, fits 0, fits 1, fits 2, fits 3);
}

pub wide64 : IsWide w64 (2 ^ 64)
wide64 = record {
  len = λ n. refl;
  back = λ bytes len fits. be_bytes_8 bytes _ len fits refl;
  again = λ n lt. from_be_bytes-to_be_bytes_8 n lt;
  below = λ bytes fits. omega (arith, fits 0, fits 1, fits 2, fits 3, fits 4, fits 5, fits 6, fits 7);
}

number_takes : (w : Width) (limit : ℕ) (wide : IsWide w limit) (bytes : List ℕ) (x : ℕ × List ℕ) → AreBytes bytes
    → number_field w bytes ≡ Some x → Takes bytes (to_be_bytes w x.0) x.1 × (x.0 < limit)
number_takes w limit wide bytes x fits e =
    let found : ℕ × List ℕ = (from_be_bytes w (take (byte_len w) bytes), drop (byte_len w) bytes) in
    let g = not_failed (ltb (length bytes) (byte_len w)) found x e in
    let long : byte_len w ≤ length bytes = ltb-false _ _ g.0 in
    let first_fits = AreBytes-take (byte_len w) bytes fits in
    let first : to_be_bytes w found.0 ≡ take (byte_len w) bytes =
    wide.back (take (byte_len w) bytes) (omega (arith, length-take (byte_len w) bytes)) first_fits in
    let whole : Takes bytes (to_be_bytes w found.0) found.1 =
    record { parts = rw first (sym (take-append-drop (byte_len w) bytes)); rest_fits = AreBytes-drop (byte_len w) bytes fits } in
    subst (λ (y : ℕ × List ℕ). Takes bytes (to_be_bytes w y.0) y.1 × (y.0 < limit)) g.1 (whole, wide.below (take (byte_len w) bytes) first_fits)

number_again : (w : Width) (limit : ℕ) (wide : IsWide w limit) (n : ℕ) (rest : List ℕ) → n < limit → number_field w (to_be_bytes w n ++ rest) ≡ Some (n, rest)
number_again w limit wide n rest lt =
    let len = wide.len n in
    let long : ltb (length (to_be_bytes w n ++ rest)) (byte_len w) ≡ false = le-ltb _ _ (omega (arith, length-append (to_be_bytes w n) rest)) in
    rw (long, take_at (to_be_bytes w n) rest (byte_len w) len, drop_at (to_be_bytes w n) rest (byte_len w) len, wide.again n lt) refl

pub number_is : (w : Width) (limit : ℕ) (wide : IsWide w limit) → IsField (number_field w) (to_be_bytes w) (λ n. n < limit)
number_is w limit wide = record { takes = number_takes w limit wide; again = number_again w limit wide }

pub up_to_is : (w : Width) (limit high : ℕ) (wide : IsWide w limit) → high < limit → IsField (number_up_to w high) (to_be_bytes w) (λ n. n ≤ high)
up_to_is w limit high wide within =
    kept_is (λ n. nat_le n high) (λ n. n ≤ high)
    (λ n lt passes. leb-true n high passes)
    (λ n le. (omega arith, le-leb n high le))
    (number_is w limit wide)

pub between_is : (w : Width) (limit low high : ℕ) (wide : IsWide w limit) → high < limit
    → IsField (number_between w low high) (to_be_bytes w) (λ n. (low ≤ n) × (n ≤ high))
between_is w limit low high wide within =
    kept_is (λ n. nat_le low n) (λ n. (low ≤ n) × (n ≤ high))
    (λ n le passes. (leb-true low n passes, le))
    (λ n in_range. (in_range.1, le-leb low n in_range.0))
    (up_to_is w limit high wide within)

byte_takes : (bytes : List ℕ) (x : ℕ × List ℕ) → AreBytes bytes → byte_field bytes ≡ Some x → Takes bytes (x.0 ∷ []) x.1 × (x.0 < 256)
byte_takes [] x fits e = absurd cc
byte_takes (byte ∷ rest) x fits e =
    let found : ℕ × List ℕ = (byte, rest) in
    let whole : Takes (byte ∷ rest) (byte ∷ []) rest = record { parts = refl; rest_fits = λ i. fits (suc i) } in
    subst (λ (y : ℕ × List ℕ). Takes (byte ∷ rest) (y.0 ∷ []) y.1 × (y.0 < 256)) (some_is found x e) (whole, fits 0)

byte_is : IsField byte_field (λ n. n ∷ []) (λ n. n < 256)
byte_is = record { takes = byte_takes; again = λ x rest h. refl }

-- ---- fields

pub txn_is : IsField txn_field (λ txn. to_be_bytes w32 txn.0) IsTxn
unfolding txn_field
txn_is =
    made_is (λ (n : ℕ). let txn : TxnId = record { 0 = n } in txn) (λ txn. txn.0) (λ n. refl) (λ txn. refl)
    (kept_is (λ n. nat_lt 0 n) (λ n. (0 < n) × (n < 2 ^ 32))
    (λ n lt passes. (ltb-true 0 n passes, lt))
    (λ n in_range. (in_range.1, lt-ltb 0 n in_range.0))
    (number_is w32 (2 ^ 32) wide32))

pub lsn_is : IsField lsn_field (λ lsn. to_be_bytes w64 lsn.0) (λ lsn. lsn.0 < 2 ^ 64)
unfolding lsn_field
lsn_is =
    made_is (λ (n : ℕ). let lsn : Lsn = record { 0 = n } in lsn) (λ lsn. lsn.0) (λ n. refl) (λ lsn. refl) (number_is w64 (2 ^ 64) wide64)

pub page_is : IsField page_field (to_be_bytes w32) (λ n. n < MAX_PAGES)
unfolding page_field
page_is = said_is (λ n. refl) (λ n le. omega (arith, le)) (λ n lt. omega (arith, lt)) (up_to_is w32 (2 ^ 32) (MAX_PAGES - 1) wide32 (omega arith))

pub rid_is : IsField rid_field rid_bytes IsRid
unfolding rid_field
rid_is =
    made_is (λ (p : ℕ × ℕ). let rid : Rid = record { page = p.0; slot = p.1 } in rid) (λ rid. (rid.page, rid.slot)) (λ p. refl) (λ rid. refl)
    (both_is page_is (up_to_is w16 (2 ^ 16) MAX_SLOT wide16 (omega arith)))

need_is : IsField need_field (to_be_bytes w16) (λ n. n ≤ CAPACITY)
unfolding need_field
need_is = up_to_is w16 (2 ^ 16) CAPACITY wide16 (omega arith)

abbrev ChangeParts : Type 0
ChangeParts = TxnId × (Lsn × (Rid × ℕ))

pub change_is : IsField change_field (λ change. change_bytes change.txn change.under change.rid change.need)
    (λ change. IsChange change.txn change.under change.rid change.need)
unfolding change_field
change_is =
    said_is (λ change. refl)
    (λ change p. record { by = p.0; above = p.1.0; place = p.1.1.0; reserved = p.1.1.1 })
    (λ change is. (is.by, (is.above, (is.place, is.reserved))))
    (made_is (λ (p : ChangeParts). let change : Change = record { txn = p.0; under = p.1.0; rid = p.1.1.0; need = p.1.1.1 } in change)
    (λ change. (change.txn, (change.under, (change.rid, change.need)))) (λ p. refl) (λ change. refl)
    (both_is txn_is (both_is lsn_is (both_is rid_is need_is))))

pub category_is : IsField category_field (λ n. n ∷ []) (λ n. n ≤ MAX_RECORDED_CATEGORY)
unfolding category_field
category_is =
    kept_is (λ n. nat_le n MAX_RECORDED_CATEGORY) (λ n. n ≤ MAX_RECORDED_CATEGORY)
    (λ n lt passes. leb-true n MAX_RECORDED_CATEGORY passes)
    (λ n le. (omega (arith, le), le-leb n MAX_RECORDED_CATEGORY le))
    byte_is

pub next_is : IsField next_field (to_be_bytes w64) (λ n. (0 < n) × (n ≤ 2 ^ 32))
unfolding next_field
next_is = said_is (λ n. refl) (λ n p. (omega (arith, p.0), p.1)) (λ n p. (omega (arith, p.0), p.1)) (between_is w64 (2 ^ 64) 1 (2 ^ 32) wide64 (omega arith))

-- ---- rows

row_length_is : IsField (number_up_to w16 MAX_ROW) (to_be_bytes w16) (λ n. n ≤ MAX_ROW)
row_length_is = up_to_is w16 (2 ^ 16) MAX_ROW wide16 (omega arith)

row_takes : (bytes : List ℕ) (x : List ℕ × List ℕ) → AreBytes bytes → row_field bytes ≡ Some x → Takes bytes (row_bytes x.0) x.1 × IsRow x.0
unfolding row_field
row_takes bytes x fits e =
    let b = bind_some (number_up_to w16 MAX_ROW bytes) (λ n. cond (ltb (length n.1) n.0) None (Some (take n.0 n.1, drop n.0 n.1))) x e in
    let n = b.0 in
    let t = row_length_is.takes bytes n fits b.1 in
    let found : List ℕ × List ℕ = (take n.0 n.1, drop n.0 n.1) in
    let g = not_failed (ltb (length n.1) n.0) found x b.2 in
    let long : n.0 ≤ length n.1 = ltb-false _ _ g.0 in
    let len : length (take n.0 n.1) ≡ n.0 = omega (arith, length-take n.0 n.1) in
    let second : Takes n.1 (take n.0 n.1) (drop n.0 n.1) = record { parts = sym (take-append-drop n.0 n.1); rest_fits = AreBytes-drop n.0 n.1 t.0.rest_fits } in
    let whole = Takes-then bytes (to_be_bytes w16 n.0) n.1 (take n.0 n.1) (drop n.0 n.1) t.0 second in
    let spelled : Takes bytes (row_bytes (take n.0 n.1)) (drop n.0 n.1) =
    subst (λ (k : ℕ). Takes bytes (to_be_bytes w16 k ++ take n.0 n.1) (drop n.0 n.1)) (sym len) whole in
    let is : IsRow (take n.0 n.1) = record { short = omega (arith, t.1); are_bytes = AreBytes-take n.0 n.1 t.0.rest_fits } in
    subst (λ (y : List ℕ × List ℕ). Takes bytes (row_bytes y.0) y.1 × IsRow y.0) g.1 (spelled, is)

row_again : (row rest : List ℕ) → IsRow row → row_field (row_bytes row ++ rest) ≡ Some (row, rest)
unfolding row_field
row_again row rest is =
    let long : ltb (length (row ++ rest)) (length row) ≡ false = le-ltb _ _ (omega (arith, length-append row rest)) in
    rw (row_length_is.again (length row) (row ++ rest) is.short, long, take_at row rest (length row) refl, drop_at row rest (length row) refl) refl

pub row_is : IsField row_field row_bytes IsRow
row_is = record { takes = row_takes; again = row_again }

-- ---- slots

-- a choice, or another
pub chosen : {A : Type 0} (b : Bool) (x y : Option A) (z : A) → cond b x y ≡ Some z → ((b ≡ true) × (x ≡ Some z)) ⊎ ((b ≡ false) × (y ≡ Some z))
chosen true x y z e = inl (refl, e)
chosen false x y z e = inr (refl, e)

pub nothing : {A B : Type 0} (x : A) → let none : Option A = None in none ≡ Some x → B
nothing x e = absurd cc

-- after one more byte
pub Takes-after : (byte : ℕ) (bytes text rest : List ℕ) → Takes bytes text rest → Takes (byte ∷ bytes) (byte ∷ text) rest
Takes-after byte bytes text rest t = record { parts = ap (λ (l : List ℕ). byte ∷ l) t.parts; rest_fits = t.rest_fits }

vacant_takes : (bytes : List ℕ) (x : Slot × List ℕ) → AreBytes bytes
    → (let found : Option (Slot × List ℕ) = Some (slot.Vacant, bytes) in found ≡ Some x) → Takes (0 ∷ bytes) (slot_bytes x.0) x.1 × IsSlot x.0
vacant_takes bytes x fits e =
    let found : Slot × List ℕ = (slot.Vacant, bytes) in
    let whole : Takes (0 ∷ bytes) (0 ∷ []) bytes = record { parts = refl; rest_fits = fits } in
    subst (λ (y : Slot × List ℕ). Takes (0 ∷ bytes) (slot_bytes y.0) y.1 × IsSlot y.0) (some_is found x e) (whole, tt)

occupied_takes : (bytes : List ℕ) (x : Slot × List ℕ) → AreBytes bytes → made (λ row. slot.Row row) row_field bytes ≡ Some x
    → Takes (1 ∷ bytes) (slot_bytes x.0) x.1 × IsSlot x.0
occupied_takes bytes x fits e =
    let a = bind_some (row_field bytes) (λ p. Some (slot.Row p.0, p.1)) x e in
    let t = row_is.takes bytes a.0 fits a.1 in
    let found : Slot × List ℕ = (slot.Row a.0.0, a.0.1) in
    subst (λ (y : Slot × List ℕ). Takes (1 ∷ bytes) (slot_bytes y.0) y.1 × IsSlot y.0) (some_is found x a.2) (Takes-after 1 bytes _ _ t.0, t.1)

slot_takes : (bytes : List ℕ) (x : Slot × List ℕ) → AreBytes bytes → slot_field bytes ≡ Some x → Takes bytes (slot_bytes x.0) x.1 × IsSlot x.0
unfolding slot_field
slot_takes [] x fits e = nothing x e
slot_takes (form ∷ rest) x fits e =
    let rest_fits : AreBytes rest = λ i. fits (suc i) in
    let occupied = made (λ row. slot.Row row) row_field rest in
    elim (chosen (eqb form 0) (Some (slot.Vacant, rest)) (cond (eqb form 1) occupied None) x e) [
      | inl here ↦ subst (λ k. Takes (k ∷ rest) (slot_bytes x.0) x.1 × IsSlot x.0) (sym (eqb-true form 0 here.0)) (vacant_takes rest x rest_fits here.1)
      | inr other ↦
          elim (chosen (eqb form 1) occupied None x other.1) [
            | inl here ↦ subst (λ k. Takes (k ∷ rest) (slot_bytes x.0) x.1 × IsSlot x.0) (sym (eqb-true form 1 here.0)) (occupied_takes rest x rest_fits here.1)
            | inr none ↦ nothing x none.1
          ]
    ]

slot_again : (back : Slot) (rest : List ℕ) → IsSlot back → slot_field (slot_bytes back ++ rest) ≡ Some (back, rest)
unfolding slot_field
slot_again slot.Vacant rest is = refl
slot_again (slot.Row row) rest is = rw (row_is.again row rest is) refl

pub slot_is : IsField slot_field slot_bytes IsSlot
slot_is = record { takes = slot_takes; again = slot_again }
