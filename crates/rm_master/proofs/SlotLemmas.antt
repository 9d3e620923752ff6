-- Slots and the fields that they spell.
use Rattle.std.proofs.Common.{◌≡◌, ℕ, zero, suc, ◌+◌, ◌<◌, ◌≤◌, Bool, true, false, nat_eq, List, [], ◌∷◌, ◌++◌, length, get_or, drop, refl, sym, ◌∙◌, ap, arith}
use Rattle.std.proofs.Math.Seq.{drop-cons}
use Rattle.std.proofs.lemmas.List.{ext_get_or}
use Rattle.std.proofs.lemmas.Nat.{be_bytes_2, be_bytes_4, be_bytes_8, from_be_bytes-to_be_bytes_2, from_be_bytes-to_be_bytes_4, from_be_bytes-to_be_bytes_8}
use Rattle.std.specs.Int.{w16, w32, w64, to_be_bytes, from_be_bytes}
use Rattle.rm_outside.specs.Images.{Bytes, Shows}
use Rattle.rm_master.specs.declared.fields.Fields.{Fields}
use Rattle.rm_master.specs.Fields.{IsFields, AreInRange, flag_byte, slot_bytes}

-- this many elements from that index on
abbrev pub cells : ℕ → ℕ → List ℕ → List ℕ
cells zero i bs = []
cells (suc n) i bs = get_or bs i 0 ∷ cells n (suc i) bs

pub cells-all : (n i : ℕ) (bs : List ℕ) → length bs ≡ i + n → cells n i bs ≡ drop i bs
cells-all zero i bs l = sym (past i bs (omega arith))
  where
    past : (i : ℕ) (bs : List ℕ) → length bs ≤ i → drop i bs ≡ []
    past zero [] le = refl
    past zero (b ∷ bs) le = absurd (omega arith)
    past (suc i) [] le = refl
    past (suc i) (b ∷ bs) le = past i bs (omega arith)
cells-all (suc n) i bs l = ap (λ (r : List ℕ). get_or bs i 0 ∷ r) (cells-all n (suc i) bs (omega arith)) ∙ sym (drop-cons bs i 0 (omega arith))

pub cells-small : (n i : ℕ) (bs : List ℕ) → ((j : ℕ) → get_or bs j 0 < 256) → (j : ℕ) → get_or (cells n i bs) j 0 < 256
cells-small zero i bs small j = omega arith
cells-small (suc n) i bs small zero = small i
cells-small (suc n) i bs small (suc j) = cells-small n (suc i) bs small j

pub flag_back : (x : ℕ) → x ≤ 1 → flag_byte (nat_eq x 1) ≡ x
flag_back zero le = refl
flag_back (suc zero) le = refl
flag_back (suc (suc x)) le = absurd (omega arith)

pub flag_small : (b : Bool) → flag_byte b ≤ 1
flag_small false = omega arith
flag_small true = omega arith

flag_read : (b : Bool) → nat_eq (flag_byte b) 1 ≡ b
flag_read false = refl
flag_read true = refl

-- a slot by its parts
pub slot_parts : (f : Fields) (v p b k s c : List ℕ) → to_be_bytes w16 f.version ≡ v → to_be_bytes w32 f.pages ≡ p → to_be_bytes w64 f.batch ≡ b → to_be_bytes w64 f.checkpoint ≡ k
    → to_be_bytes w64 f.start ≡ s → to_be_bytes w32 f.copied ≡ c → slot_bytes f ≡ v ++ p ++ b ++ k ++ f.half ∷ flag_byte f.restoring ∷ [] ++ s ++ c
unfolding slot_bytes
slot_parts f v p b k s c ev ep eb ek es ec = λ i. ev i ++ ep i ++ eb i ++ ek i ++ f.half ∷ flag_byte f.restoring ∷ [] ++ es i ++ ec i

-- the flag of a slot
pub slot_flag : (f : Fields) → get_or (slot_bytes f) 23 0 ≤ 1
unfolding slot_bytes
slot_flag f = flag_small f.restoring

pub length-slot_bytes : (f : Fields) → length (slot_bytes f) ≡ 36
unfolding slot_bytes
length-slot_bytes f = refl

-- the fields that 36 bytes spell
abbrev pub fields_in : List ℕ → Fields
fields_in bs = record {
  version = from_be_bytes w16 (cells 2 0 bs);
  pages = from_be_bytes w32 (cells 4 2 bs);
  batch = from_be_bytes w64 (cells 8 6 bs);
  checkpoint = from_be_bytes w64 (cells 8 14 bs);
  half = get_or bs 22 0;
  restoring = nat_eq (get_or bs 23 0) 1;
  start = from_be_bytes w64 (cells 8 24 bs);
  copied = from_be_bytes w32 (cells 4 32 bs);
}

-- bytes are the spelling of what they spell
pub spelled_back : (bs : List ℕ) → length bs ≡ 36 → ((j : ℕ) → get_or bs j 0 < 256) → get_or bs 23 0 ≤ 1 → bs ≡ slot_bytes (fields_in bs)
spelled_back bs l small flag =
    let whole : cells 36 0 bs ≡ bs = cells-all 36 0 bs l in
    let parts = slot_parts (fields_in bs) (cells 2 0 bs) (cells 4 2 bs) (cells 8 6 bs) (cells 8 14 bs) (cells 8 24 bs) (cells 4 32 bs)
    (be_bytes_2 (cells 2 0 bs) _ refl (cells-small 2 0 bs small) refl)
    (be_bytes_4 (cells 4 2 bs) _ refl (cells-small 4 2 bs small) refl)
    (be_bytes_8 (cells 8 6 bs) _ refl (cells-small 8 6 bs small) refl)
    (be_bytes_8 (cells 8 14 bs) _ refl (cells-small 8 14 bs small) refl)
    (be_bytes_8 (cells 8 24 bs) _ refl (cells-small 8 24 bs small) refl)
    (be_bytes_4 (cells 4 32 bs) _ refl (cells-small 4 32 bs small) refl) in
    let flagged : slot_bytes (fields_in bs) ≡ cells 36 0 bs =
    parts ∙ ap (λ (x : ℕ). cells 23 0 bs ++ x ∷ cells 12 24 bs) (flag_back (get_or bs 23 0) flag) in
    sym (flagged ∙ whole)

-- a spelling spells its fields
spelled_again : (f : Fields) → AreInRange f → fields_in (slot_bytes f) ≡ f
unfolding slot_bytes
spelled_again f fit =
    let v = from_be_bytes-to_be_bytes_2 f.version fit.version in
    let p = from_be_bytes-to_be_bytes_4 f.pages fit.pages in
    let b = from_be_bytes-to_be_bytes_8 f.batch fit.batch in
    let k = from_be_bytes-to_be_bytes_8 f.checkpoint fit.checkpoint in
    let s = from_be_bytes-to_be_bytes_8 f.start fit.start in
    let c = from_be_bytes-to_be_bytes_4 f.copied fit.copied in
    λ i. record {
      version = v i;
      pages = p i;
      batch = b i;
      checkpoint = k i;
      half = f.half;
      restoring = flag_read f.restoring i;
      start = s i;
      copied = c i;
    }

-- fields that keep the rules fit their types
pub IsFields-in_range : (f : Fields) → IsFields f → AreInRange f
IsFields-in_range f rules = record {
  version = omega (arith, rules.file.known);
  pages = omega (arith, rules.file.few_pages);
  batch = omega (arith, rules.checkpoint.batch_within);
  checkpoint = omega (arith, rules.checkpoint.within);
  start = omega (arith, rules.copy.start_within);
  copied = omega (arith, rules.copy.copied_within, rules.file.few_pages);
}

-- lists of one length that stand at one place are one
pub one_list : (area : Bytes) (at : ℕ) (xs ys : List ℕ) → length xs ≡ length ys → Shows area at xs → Shows area at ys → xs ≡ ys
one_list area at xs ys same first second =
    ext_get_or 0 xs ys same (λ k below. sym (first.each k below) ∙ second.each k (omega arith))

-- one spelling is of one list of fields
pub one_spelling : (f g : Fields) → AreInRange f → AreInRange g → slot_bytes f ≡ slot_bytes g → f ≡ g
one_spelling f g f_fit g_fit same = sym (spelled_again f f_fit) ∙ ap fields_in same ∙ spelled_again g g_fit

-- Shows of two spellings at one place
pub one_shown : (area : Bytes) (at : ℕ) (f g : Fields) → IsFields f → IsFields g → Shows area at (slot_bytes f) → Shows area at (slot_bytes g) → f ≡ g
one_shown area at f g f_rules g_rules f_shown g_shown =
    one_spelling f g (IsFields-in_range f f_rules) (IsFields-in_range g g_rules) (one_list area at (slot_bytes f) (slot_bytes g) (length-slot_bytes f ∙ sym (length-slot_bytes g)) f_shown g_shown)
