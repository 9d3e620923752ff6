-- What decode answers.
use Rattle.std.proofs.Common.{◌≡◌, ℕ, ◌+◌, ◌-◌, ◌≤◌, List, ◌++◌, length, take, drop, Result, Err, Some, sym, ap, ◌∙◌, arith}
use Rattle.std.proofs.lemmas.List.{take_at, drop_at, length-append}
use Rattle.rm_record.specs.declared.records.LogRecord.{LogRecord}
use Rattle.rm_record.specs.declared.refused.DecodeRefused.{DecodeRefused}
use Rattle.rm_record.specs.declared.refused.DecodeRefused.TheVariants as refused
use Rattle.rm_record.specs.Records.{AreBytes, IsRecord, spelling}
use Rattle.rm_record.specs.Fields.{Refuses}
use Rattle.rm_record.specs.Reading.{record_field}
use Rattle.rm_record.proofs.FieldLaws.{some_is, nothing}
use Rattle.rm_record.proofs.RecordLaws.{record_takes, record_again}

pub spellings_are_apart : (a b : LogRecord) (x y : List ℕ) → IsRecord a → IsRecord b → spelling a ++ x ≡ spelling b ++ y → (a ≡ b) × (x ≡ y)
spellings_are_apart a b x y p q e =
    let same : (a, x) ≡ (b, y) = some_is (a, x) (b, y) (sym (record_again a x p) ∙ ap record_field e ∙ record_again b y q) in
    (ap (λ (r : LogRecord × List ℕ). r.0) same, ap (λ (r : LogRecord × List ℕ). r.1) same)

-- the length of what was taken
taken_length : (bytes text rest : List ℕ) → bytes ≡ text ++ rest → (length rest ≤ length bytes) × (length bytes - length rest ≡ length text)
taken_length bytes text rest e =
    let sum : length bytes ≡ length text + length rest = ap length e ∙ length-append text rest in
    (omega arith, omega arith)

pub rest_within : (bytes : List ℕ) (x : LogRecord × List ℕ) → AreBytes bytes → record_field bytes ≡ Some x → length x.1 ≤ length bytes
rest_within bytes x fits e = (taken_length bytes (spelling x.0) x.1 (record_takes bytes x fits e).0.parts).0

pub found_is : (bytes : List ℕ) (x : LogRecord × List ℕ) → AreBytes bytes → record_field bytes ≡ Some x
    → IsRecord x.0 × (length bytes - length x.1 ≡ length (spelling x.0)) × (bytes ≡ spelling x.0 ++ drop (length bytes - length x.1) bytes)
found_is bytes x fits e =
    let t = record_takes bytes x fits e in
    let long = (taken_length bytes (spelling x.0) x.1 t.0.parts).1 in
    let back : drop (length bytes - length x.1) bytes ≡ x.1 = ap (drop (length bytes - length x.1)) t.0.parts ∙ drop_at (spelling x.0) x.1 _ (sym long) in
    (t.1, long, t.0.parts ∙ ap (λ (l : List ℕ). spelling x.0 ++ l) (sym back))

pub prefix_is : (bytes : List ℕ) (x : LogRecord × List ℕ) → AreBytes bytes → record_field bytes ≡ Some x
    → (length bytes - length x.1 ≤ length bytes) × (take (length bytes - length x.1) bytes ≡ spelling x.0)
prefix_is bytes x fits e =
    let t = record_takes bytes x fits e in
    let long = (taken_length bytes (spelling x.0) x.1 t.0.parts).1 in
    (omega arith, ap (take (length bytes - length x.1)) t.0.parts ∙ take_at (spelling x.0) x.1 _ (sym long))

-- what is refused as bad begins with no record
pub bad_is : {X : Type 0} (e : DecodeRefused) (bytes : List ℕ) → Refuses e (record_field bytes)
    → (let told : Result X DecodeRefused = Err e in told ≡ Err refused.Bad) → (logged : LogRecord) (rest : List ℕ) → IsRecord logged
    → bytes ≡ spelling logged ++ rest → ⊥
bad_is {X} refused.Bad bytes none told logged rest is cut =
    nothing (logged, rest) (sym none ∙ ap record_field cut ∙ record_again logged rest is)
bad_is {X} refused.NoMemory bytes none told logged rest is cut = absurd cc
