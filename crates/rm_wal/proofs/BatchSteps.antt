-- What stands after a gate, from what was read of it.
use Rattle.std.proofs.Common.{◌≡◌, ℕ, ◌+◌, ◌<◌, ◌≤◌, List, [], ◌∷◌, ◌++◌, length, Option, Some, None, IfSome, Result, Ok, Err, IfOk, get_or, take, drop, inl, inr, refl, sym, ap, subst, ◌∙◌, arith, length-append}
use Rattle.std.proofs.lemmas.List.{take-append-drop, length-take}
use Rattle.std.specs.Int.{to_be_bytes, w32}
use Rattle.rm_types.specs.declared.faults.StoreFault.{StoreFault}
use Rattle.rm_types.specs.declared.areas.Area.TheVariants.{Log}
use Rattle.rm_outside.specs.Images.{Image, Bytes, Shows}
use Rattle.rm_outside.proofs.ShowsLemmas.{shows_front, shows_back, shows_both, shows_once}
use Rattle.rm_record.specs.declared.records.LogRecord.{LogRecord}
use Rattle.rm_record.specs.Records.{spelling, spelling_all, IsRecord}
use Rattle.rm_history.specs.declared.TheConstants.{BATCH_HEADER}
use Rattle.rm_history.specs.Logs.{IsInRange, IsWrongAfter}
use Rattle.rm_wal.specs.Batches.{BeginsWithNone, StopsAt, IsOutOfRange, IsOpen, ReadsHeader}

-- the gate and the length, of the header that stands there
shows_header : {area : Bytes} {gate : ℕ} (len : ℕ) → Shows area gate (1 ∷ to_be_bytes w32 len) → (area gate ≡ 1) × Shows area (gate + 1) (to_be_bytes w32 len)
shows_header {area} {gate} len shown =
    let here : gate ≡ gate + 0 = omega arith in
    (ap area here ∙ shown.each 0 (omega arith), shows_back (1 ∷ []) (to_be_bytes w32 len) shown)

pub header_is_open : {area : Bytes} {gate len : ℕ} {header : List ℕ} {modelled : Type 0} → IsInRange gate len → header ≡ 1 ∷ to_be_bytes w32 len → (modelled → Shows area gate header) → IsOpen modelled area gate len
header_is_open {area} {gate} {len} is header_is shown = record { range = is; shown = λ models. shows_header len (subst (Shows area gate) header_is (shown models)) }

pub header_is_closed : {area : Bytes} {gate : ℕ} {header : List ℕ} → 0 < length header → Shows area gate header → (get_or header 0 0 ≡ 1 → ⊥) → area gate ≡ 1 → ⊥
header_is_closed {area} {gate} some shown shut opened =
    let here : gate + 0 ≡ gate = omega arith in
    shut (sym (shown.each 0 some) ∙ ap area here ∙ opened)

pub header_is_wrong : {area : Bytes} {gate at : ℕ} {header : List ℕ} → IsOutOfRange gate header at → Shows area gate header → IsWrongAfter area gate at
header_is_wrong {area} {gate} is shown =
    let both = shows_header is.len (subst (Shows area gate) is.header_is shown) in
    record {
      begun = both.0;
      wrong = inl (record { len = is.len; fits = is.fits; shown = both.1; wrong = is.wrong; place = is.place });
    }

-- whatever the header is
pub header_is_read : {area : Bytes} {gate : ℕ} {header : List ℕ} {modelled : Type 0} (outcome : Result (Option ℕ) StoreFault) → 0 < length header → (modelled → Shows area gate header)
    → (outcome ≡ Ok None → get_or header 0 0 ≡ 1 → ⊥) → IfOk outcome (λ found. IfSome found (λ len. IsInRange gate len × (header ≡ 1 ∷ to_be_bytes w32 len)))
    → IfOk outcome (ReadsHeader modelled area gate)
header_is_read (Ok None) some shown closed opened = λ models. header_is_closed some (shown models) (closed refl)
header_is_read (Ok (Some len)) some shown closed opened = header_is_open opened.0 opened.1 shown
header_is_read (Err fault) some shown closed opened = tt

-- the length, and the bytes after it
shows_body : {area : Bytes} (gate len : ℕ) {bytes : List ℕ} → Shows area (gate + 1) (to_be_bytes w32 len) → Shows area (gate + BATCH_HEADER) bytes → Shows area (gate + 1) (to_be_bytes w32 len ++ bytes)
shows_body {area} gate len {bytes} front back =
    let here : gate + BATCH_HEADER ≡ (gate + 1) + 4 = omega arith in
    shows_both (to_be_bytes w32 len) bytes front (subst (λ (at : ℕ). Shows area at bytes) here back)

-- no record stands where the bytes that stand there begin with none
pub none_stands : {area : Bytes} {at : ℕ} (rest : List ℕ) → Shows area at rest → BeginsWithNone rest → (next : LogRecord) → IsRecord next → length (spelling next) ≤ length rest → Shows area at (spelling next) → ⊥
none_stands {area} {at} rest shown none next is short stands =
    let n = length (spelling next) in
    let cut : take n rest ++ drop n rest ≡ rest = take-append-drop n rest in
    let front : Shows area at (take n rest) = shows_front (take n rest) (drop n rest) (subst (Shows area at) (sym cut) shown) in
    let same : spelling next ≡ take n rest = shows_once (spelling next) (take n rest) stands front (omega (arith, length-take n rest)) in
    none.each next (drop n rest) is (sym cut ∙ ap (λ (l : List ℕ). l ++ drop n rest) (sym same))

pub batch_is_wrong : {area : Bytes} {gate len at : ℕ} {bytes : List ℕ} {modelled : Type 0} → IsOpen modelled area gate len → (modelled → Shows area (gate + BATCH_HEADER) bytes) → length bytes ≡ len
    → StopsAt (gate + BATCH_HEADER) bytes at → modelled → IsWrongAfter area gate at
batch_is_wrong {area} {gate} {len} {at} {bytes} opened shown long stops models =
    let front = spelling_all stops.prefix in
    let lengths : length front + length stops.rest ≡ len = sym (length-append front stops.rest) ∙ sym (ap length stops.cut) ∙ long in
    let body : Shows area (gate + BATCH_HEADER) (front ++ stops.rest) = subst (Shows area (gate + BATCH_HEADER)) stops.cut (shown models) in
    let here : Shows area at stops.rest = subst (λ (n : ℕ). Shows area n stops.rest) (sym stops.place) (shows_back front stops.rest body) in
    record {
      begun = (opened.shown models).0;
      wrong = inr (record {
        len = len;
        prefix = stops.prefix;
        range = opened.range;
        records = stops.are;
        within = omega (arith, lengths, stops.some);
        shown = shows_body gate len (opened.shown models).1 (shows_front front stops.rest body);
        place = omega (arith, stops.place);
        none = λ next is short stands. none_stands stops.rest here stops.none next is (omega (arith, lengths)) stands;
      });
    }

-- what stands after a call that only read stood there before it
pub shows_before : {content later : Image} {at : ℕ} {bytes read : List ℕ} → later ≡ content → bytes ≡ read → Shows (later Log) at read → Shows (content Log) at bytes
shows_before {at = at} {read = read} same is shown = rw is (subst (λ (image : Image). Shows (image Log) at read) same shown)

-- what was read goes on standing while the volume models its content
pub open_on : {area : Bytes} {gate len : ℕ} {modelled later : Type 0} → (later → modelled) → IsOpen modelled area gate len → IsOpen later area gate len
open_on before opened = record { range = opened.range; shown = λ models. opened.shown (before models) }
