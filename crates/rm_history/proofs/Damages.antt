-- An area that is damaged has no log, and is damaged at one place alone.
use Rattle.std.proofs.Common.{◌≡◌, ◌⊎◌, inl, inr, ℕ, ◌+◌, ◌<◌, ◌≤◌, List, [], ◌∷◌, ◌++◌, length, take, drop, ◌^◌, refl, sym, ap}
use Rattle.std.proofs.Common.{subst, ◌∙◌, arith, length-append, append_assoc}
use Rattle.std.specs.Int.{to_be_bytes, from_be_bytes, w32}
use Rattle.std.specs.List.{AllByRecursion}
use Rattle.std.proofs.lemmas.Bool.{cases_lt}
use Rattle.std.proofs.lemmas.Grind.{flat_map-append}
use Rattle.std.proofs.lemmas.List.{take-append-drop, length-take}
use Rattle.std.proofs.lemmas.Nat.{from_be_bytes-to_be_bytes_4}
use Rattle.rm_outside.specs.Images.{Bytes, Shows}
use Rattle.rm_outside.proofs.ShowsLemmas.{shows_front, shows_back, shows_once}
use Rattle.rm_record.specs.declared.records.LogRecord.{LogRecord}
use Rattle.rm_record.specs.Records.{spelling, spelling_all, IsRecord}
use Rattle.rm_record.proofs.Decoding.{spellings_are_apart}
use Rattle.rm_history.specs.Logs.{Batch, gate_of, body_of, IsInRange, IsBatch, Stands, HasLog, HasWrongLength, HasWrongRecord, IsWrongAfter, IsDamagedAt}
use Rattle.rm_history.proofs.Readings.{last_of, stands_prefix, overlap, none_after}

-- the record after some records of a batch
record Next (prefix batch : Batch) : Type 0 where
  pub next : LogRecord
  pub rest : Batch
  pub split : batch ≡ prefix ++ next ∷ rest
  pub is : IsRecord next

next_more : (first other : LogRecord) (prefix batch : Batch) → first ≡ other → Next prefix batch → Next (first ∷ prefix) (other ∷ batch)
next_more first other prefix batch same found = record {
  next = found.next;
  rest = found.rest;
  split = λ i. sym same i ∷ found.split i;
  is = found.is;
}

-- a batch whose bytes go on after those of some records
next_of : (prefix batch : Batch) (after : List ℕ) → AllByRecursion IsRecord prefix → AllByRecursion IsRecord batch
    → spelling_all prefix ++ after ≡ spelling_all batch
    → length (spelling_all prefix) < length (spelling_all batch) → Next prefix batch
next_of [] [] after are batch_are same shorter = absurd (omega arith)
next_of [] (next ∷ rest) after are batch_are same shorter = record { next = next; rest = rest; split = refl; is = batch_are.0 }
next_of (first ∷ prefix) [] after are batch_are same shorter = absurd (omega arith)
next_of (first ∷ prefix) (other ∷ batch) after are batch_are same shorter =
    let whole : spelling first ++ (spelling_all prefix ++ after) ≡ spelling other ++ spelling_all batch =
    sym (append_assoc (spelling first) (spelling_all prefix) after) ∙ same in
    let parts = spellings_are_apart first other (spelling_all prefix ++ after) (spelling_all batch) are.0 batch_are.0 whole in
    let sizes : length (spelling first) ≡ length (spelling other) = ap (λ (r : LogRecord). length (spelling r)) parts.0 in
    next_more first other prefix batch parts.0
    (next_of prefix batch after are.1 batch_are.1 parts.1
    (omega (arith, sizes, length-append (spelling first) (spelling_all prefix), length-append (spelling other) (spelling_all batch))))

-- the bytes of a batch around that record
spelled_around : (prefix batch : Batch) (found : Next prefix batch)
    → spelling_all batch ≡ spelling_all prefix ++ (spelling found.next ++ spelling_all found.rest)
spelled_around prefix batch found = ap spelling_all found.split ∙ flat_map-append spelling prefix (found.next ∷ found.rest)

found_within : (prefix batch : Batch) (found : Next prefix batch) → length (spelling_all prefix) + length (spelling found.next) ≤ length (spelling_all batch)
found_within prefix batch found =
    omega (
      arith,
      ap length (spelled_around prefix batch found),
      length-append (spelling_all prefix) (spelling found.next ++ spelling_all found.rest),
      length-append (spelling found.next) (spelling_all found.rest),
    )

module _ (area : Bytes) where
  -- as many bytes as some that stand there
  shows_take : (at : ℕ) (first whole : List ℕ) → Shows area at first → Shows area at whole → length first ≤ length whole
      → first ++ drop (length first) whole ≡ whole
  shows_take at first whole shown whole_shown shorter =
      let n = length first in
      let split : take n whole ++ drop n whole ≡ whole = take-append-drop n whole in
      let prefix : Shows area at (take n whole) = shows_front (take n whole) (drop n whole) (subst (λ (l : List ℕ). Shows area at l) (sym split) whole_shown) in
      let same : first ≡ take n whole = shows_once first (take n whole) shown prefix (omega (arith, length-take n whole)) in
      ap (λ (l : List ℕ). l ++ drop n whole) same ∙ split

  -- one length stands there
  length_once : (at len other : ℕ) → len < 2 ^ 32 → other < 2 ^ 32 → Shows area at (to_be_bytes w32 len) → Shows area at (to_be_bytes w32 other) → len ≡ other
  length_once at len other fits other_fits shown other_shown =
      let heads : to_be_bytes w32 len ≡ to_be_bytes w32 other = shows_once (to_be_bytes w32 len) (to_be_bytes w32 other) shown other_shown refl in
      sym (from_be_bytes-to_be_bytes_4 len fits) ∙ ap (from_be_bytes w32) heads ∙ from_be_bytes-to_be_bytes_4 other other_fits

  -- the length of a batch
  batch_length : (gate len : ℕ) (batch : Batch) → len < 2 ^ 32 → IsBatch gate batch → Shows area (gate + 1) (to_be_bytes w32 len)
      → Shows area (gate + 1) (body_of batch) → len ≡ length (spelling_all batch)
  batch_length gate len batch fits is shown body =
      let n = length (spelling_all batch) in
      length_once (gate + 1) len n fits (omega (arith, is.range.short)) shown (shows_front (to_be_bytes w32 n) (spelling_all batch) body)

  -- the records before a wrong one, and the length before them
  abbrev wrong_shown : {gate at : ℕ} → (wrong : HasWrongRecord area gate at) → Shows area (gate + 1) (to_be_bytes w32 wrong.len)
  wrong_shown wrong = shows_front (to_be_bytes w32 wrong.len) (spelling_all wrong.prefix) wrong.shown

  abbrev wrong_fits : {gate at : ℕ} → (wrong : HasWrongRecord area gate at) → wrong.len < 2 ^ 32
  wrong_fits wrong = omega (arith, wrong.range.short)

  -- within that length no more records stand
  none_more : (gate at : ℕ) (wrong : HasWrongRecord area gate at) (records : Batch) → AllByRecursion IsRecord records
      → Shows area (gate + 1 + 4) (spelling_all records) → length (spelling_all records) ≤ wrong.len
      → length (spelling_all wrong.prefix) < length (spelling_all records) → ⊥
  none_more gate at wrong records are whole within shorter =
      let prefix = wrong.prefix in
      let begins : Shows area (gate + 1 + 4) (spelling_all prefix) = shows_back (to_be_bytes w32 wrong.len) (spelling_all prefix) wrong.shown in
      let found = next_of prefix records (drop (length (spelling_all prefix)) (spelling_all records)) wrong.records are
      (shows_take (gate + 1 + 4) (spelling_all prefix) (spelling_all records) begins whole (omega arith)) shorter in
      let there : Shows area (gate + 1 + 4 + length (spelling_all prefix)) (spelling found.next) =
      shows_front (spelling found.next) (spelling_all found.rest)
      (shows_back (spelling_all prefix) (spelling found.next ++ spelling_all found.rest)
      (subst (λ (l : List ℕ). Shows area (gate + 1 + 4) l) (spelled_around prefix records found) whole)) in
      let place : gate + 1 + 4 + length (spelling_all prefix) ≡ at = omega (arith, wrong.place) in
      let fits : length (spelling_all prefix) + length (spelling found.next) ≤ wrong.len = omega (arith, within, found_within prefix records found) in
      wrong.none found.next found.is fits (subst (λ (m : ℕ). Shows area m (spelling found.next)) place there)

  no_wrong_length : (gate at : ℕ) (batch : Batch) → IsBatch gate batch → Shows area (gate + 1) (body_of batch) → HasWrongLength area gate at → ⊥
  no_wrong_length gate at batch is body wrong =
      wrong.wrong (subst (λ (n : ℕ). IsInRange gate n) (sym (batch_length gate wrong.len batch wrong.fits is wrong.shown body)) is.range)

  no_wrong_record : (gate at : ℕ) (batch : Batch) → IsBatch gate batch → Shows area (gate + 1) (body_of batch) → HasWrongRecord area gate at → ⊥
  no_wrong_record gate at batch is body wrong =
      let n = length (spelling_all batch) in
      let same : wrong.len ≡ n = batch_length gate wrong.len batch (wrong_fits wrong) is (wrong_shown wrong) body in
      none_more gate at wrong batch is.records (shows_back (to_be_bytes w32 n) (spelling_all batch) body) (omega (arith, same)) (omega (arith, wrong.within, same))

  -- where no batch stands after those of a damaged log
  not_after : (batches others : List Batch) (at : ℕ) → IsWrongAfter area (gate_of batches) at → Stands area others
      → (next : Batch) (more : List Batch) → others ≡ (next ∷ more) ++ batches → ⊥
  not_after batches others at wrong stands next more is =
      let parts = last_of area next more in
      let split : others ≡ parts.0 ++ (parts.1 ∷ batches) = is ∙ ap (λ (l : List Batch). l ++ batches) parts.2 ∙ append_assoc parts.0 (parts.1 ∷ []) batches in
      let there : Stands area (parts.1 ∷ batches) = stands_prefix area parts.0 (parts.1 ∷ batches) (subst (Stands area) split stands) in
      elim wrong.wrong [
        | inl wrong_length ↦ no_wrong_length (gate_of batches) at parts.1 there.1 there.3 wrong_length
        | inr wrong_record ↦ no_wrong_record (gate_of batches) at parts.1 there.1 there.3 wrong_record
      ]

  all_before : (batches others : List Batch) (at : ℕ) → IsWrongAfter area (gate_of batches) at → Stands area others
      → (more : List Batch) → others ≡ more ++ batches → others ≡ batches
  all_before batches others at wrong stands [] is = is
  all_before batches others at wrong stands (next ∷ more) is = absurd (not_after batches others at wrong stands next more is)

  pub damaged_has_no_log : (at : ℕ) (batches : List Batch) → IsDamagedAt area at → HasLog area batches → ⊥
  damaged_has_no_log at others damaged has =
      let same : others ≡ damaged.batches = elim (overlap area damaged.batches others damaged.stands has.stands) [
        | inl found ↦ sym (none_after area damaged.batches others found.0 has.closed damaged.stands found.1)
        | inr found ↦ all_before damaged.batches others at damaged.wrong has.stands found.0 found.1
      ] in
      has.closed (ap (λ (b : List Batch). area (gate_of b)) same ∙ damaged.wrong.begun)

  -- of two wrong records after a gate, neither stands before the other
  not_before : (gate at other : ℕ) → HasWrongRecord area gate at → HasWrongRecord area gate other → at ≤ other
  not_before gate at other wrong later =
      let same : wrong.len ≡ later.len = length_once (gate + 1) wrong.len later.len (wrong_fits wrong) (wrong_fits later) (wrong_shown wrong) (wrong_shown later) in
      let n = length (spelling_all wrong.prefix) in
      let m = length (spelling_all later.prefix) in
      elim (cases_lt m n) [
        | inl shorter ↦ absurd (none_more gate other later wrong.prefix wrong.records
            (shows_back (to_be_bytes w32 wrong.len) (spelling_all wrong.prefix) wrong.shown) (omega (arith, wrong.within, same)) shorter)
        | inr not ↦ omega (arith, wrong.place, later.place, not)
      ]

  -- a length that is out of range is no length of records
  not_both : (gate at other : ℕ) → HasWrongLength area gate at → HasWrongRecord area gate other → ⊥
  not_both gate at other wrong record_wrong =
      let same : record_wrong.len ≡ wrong.len =
      length_once (gate + 1) record_wrong.len wrong.len (wrong_fits record_wrong) wrong.fits (wrong_shown record_wrong) wrong.shown in
      wrong.wrong (subst (λ (n : ℕ). IsInRange gate n) same record_wrong.range)

  one_after : (gate at other : ℕ) → HasWrongLength area gate at ⊎ HasWrongRecord area gate at
      → HasWrongLength area gate other ⊎ HasWrongRecord area gate other → at ≡ other
  one_after gate at other (inl one) (inl two) = one.place ∙ sym two.place
  one_after gate at other (inl one) (inr two) = absurd (not_both gate at other one two)
  one_after gate at other (inr one) (inl two) = absurd (not_both gate other at two one)
  one_after gate at other (inr one) (inr two) = omega (arith, not_before gate at other one two, not_before gate other at two one)

  pub damage_once : (at other : ℕ) → IsDamagedAt area at → IsDamagedAt area other → at ≡ other
  damage_once at other damaged again =
      let same : damaged.batches ≡ again.batches = elim (overlap area damaged.batches again.batches damaged.stands again.stands) [
        | inl found ↦ all_before again.batches damaged.batches other again.wrong damaged.stands found.0 found.1
        | inr found ↦ sym (all_before damaged.batches again.batches at damaged.wrong again.stands found.0 found.1)
      ] in
      let there : IsWrongAfter area (gate_of again.batches) at = subst (λ (b : List Batch). IsWrongAfter area (gate_of b) at) same damaged.wrong in
      one_after (gate_of again.batches) at other there.wrong again.wrong.wrong
