-- An area has one log.
use Rattle.std.proofs.Common.{◌≡◌, ◌⊎◌, inl, inr, ℕ, ◌+◌, ◌<◌, List, [], ◌∷◌, ◌++◌, length, refl, sym, ap, subst, ◌∙◌, arith, length-append, append_assoc}
use Rattle.std.specs.Int.{to_be_bytes, from_be_bytes, w32}
use Rattle.std.specs.List.{AllByRecursion}
use Rattle.std.proofs.lemmas.List.{append-nil}
use Rattle.std.proofs.lemmas.Nat.{from_be_bytes-to_be_bytes_4}
use Rattle.rm_outside.specs.Images.{Bytes, Shows}
use Rattle.rm_outside.proofs.ShowsLemmas.{shows_front, shows_back, shows_once}
use Rattle.rm_record.specs.declared.records.LogRecord.{LogRecord}
use Rattle.rm_record.specs.declared.records.LogRecord.TheVariants.{Insert}
use Rattle.rm_record.specs.Records.{spelling, spelling_all, IsRecord}
use Rattle.rm_record.proofs.Decoding.{spellings_are_apart}
use Rattle.rm_history.specs.Logs.{Batch, gate_of, body_of, IsBatch, Stands, HasLog}

pub spelling_long : (next : LogRecord) → 0 < length (spelling next)
spelling_long (Insert txn under rid need row) = omega arith
spelling_long other = omega arith

pub records_once : (records others : List LogRecord) → AllByRecursion IsRecord records → AllByRecursion IsRecord others
    → spelling_all records ≡ spelling_all others → records ≡ others
records_once [] [] are others_are same = refl
records_once [] (other ∷ others) are others_are same =
    absurd (omega (arith, ap length same, length-append (spelling other) (spelling_all others), spelling_long other))
records_once (next ∷ records) [] are others_are same =
    absurd (omega (arith, ap length same, length-append (spelling next) (spelling_all records), spelling_long next))
records_once (next ∷ records) (other ∷ others) are others_are same =
    let first = spellings_are_apart next other (spelling_all records) (spelling_all others) are.0 others_are.0 same in
    let rest = records_once records others are.1 others_are.1 first.1 in
    λ i. first.0 i ∷ rest i

length-four : (n : ℕ) → length (to_be_bytes w32 n) ≡ 4
length-four n = refl

module _ (area : Bytes) where
  pub batch_once : (gate : ℕ) (batch other : Batch) → IsBatch gate batch → IsBatch gate other → Shows area (gate + 1) (body_of batch)
      → Shows area (gate + 1) (body_of other) → batch ≡ other
  batch_once gate batch other is other_is shown other_shown =
      let n = length (spelling_all batch) in
      let m = length (spelling_all other) in
      let heads : to_be_bytes w32 n ≡ to_be_bytes w32 m =
      shows_once (to_be_bytes w32 n) (to_be_bytes w32 m) (shows_front (to_be_bytes w32 n) (spelling_all batch) shown)
      (shows_front (to_be_bytes w32 m) (spelling_all other) other_shown) refl in
      let lengths : n ≡ m =
      sym (from_be_bytes-to_be_bytes_4 n (omega (arith, is.range.short))) ∙ ap (from_be_bytes w32) heads
      ∙ from_be_bytes-to_be_bytes_4 m (omega (arith, other_is.range.short)) in
      let spelled : spelling_all batch ≡ spelling_all other =
      shows_once (spelling_all batch) (spelling_all other) (shows_back (to_be_bytes w32 n) (spelling_all batch) shown)
      (shows_back (to_be_bytes w32 m) (spelling_all other) other_shown) lengths in
      records_once batch other is.records other_is.records spelled

  -- what stands without the newest batches
  pub stands_prefix : (more batches : List Batch) → Stands area (more ++ batches) → Stands area batches
  stands_prefix [] batches stands = stands
  stands_prefix (newest ∷ more) batches stands = stands_prefix more batches stands.0

  -- the newest and the oldest of some
  pub last_of : (newest : Batch) (more : List Batch) → (prefix : List Batch) × (oldest : Batch) × (newest ∷ more ≡ prefix ++ oldest ∷ [])
  last_of newest [] = ([], newest, refl)
  last_of newest (next ∷ more) = let rest = last_of next more in (newest ∷ rest.0, rest.1, ap (λ (l : List Batch). newest ∷ l) rest.2)

  -- of two lists that stand, one begins the other
  abbrev pub Overlap : List Batch → List Batch → Type 0
  Overlap batches others = ((more : List Batch) × (batches ≡ more ++ others)) ⊎ ((more : List Batch) × (others ≡ more ++ batches))

  overlap_more : (newest : Batch) (batches others more : List Batch) → Stands area (newest ∷ batches) → Stands area others
      → others ≡ more ++ batches → Overlap (newest ∷ batches) others
  overlap_more newest batches others [] stands others_stand is = inl (newest ∷ [], ap (λ (l : List Batch). newest ∷ l) (sym is))
  overlap_more newest batches others (next ∷ more) stands others_stand is =
      let parts = last_of next more in
      let split : others ≡ parts.0 ++ (parts.1 ∷ batches) = is ∙ ap (λ (l : List Batch). l ++ batches) parts.2 ∙ append_assoc parts.0 (parts.1 ∷ []) batches in
      let there : Stands area (parts.1 ∷ batches) = stands_prefix parts.0 (parts.1 ∷ batches) (subst (Stands area) split others_stand) in
      let same : parts.1 ≡ newest = batch_once (gate_of batches) parts.1 newest there.1 stands.1 there.3 stands.3 in
      inr (parts.0, split ∙ ap (λ (b : Batch). parts.0 ++ (b ∷ batches)) same)

  pub overlap : (batches others : List Batch) → Stands area batches → Stands area others → Overlap batches others
  overlap [] others stands others_stand = inr (others, sym (append-nil others))
  overlap (newest ∷ batches) others stands others_stand = elim (overlap batches others stands.0 others_stand) [
    | inl found ↦ inl (newest ∷ found.0, ap (λ (l : List Batch). newest ∷ l) found.1)
    | inr found ↦ overlap_more newest batches others found.0 stands others_stand found.1
  ]

  -- after a closed gate there is no other batch
  pub none_after : (batches others more : List Batch) → (area (gate_of others) ≡ 1 → ⊥) → Stands area batches → batches ≡ more ++ others → batches ≡ others
  none_after batches others [] shut stands is = is
  none_after batches others (next ∷ more) shut stands is =
      let parts = last_of next more in
      let split : batches ≡ parts.0 ++ (parts.1 ∷ others) = is ∙ ap (λ (l : List Batch). l ++ others) parts.2 ∙ append_assoc parts.0 (parts.1 ∷ []) others in
      let there : Stands area (parts.1 ∷ others) = stands_prefix parts.0 (parts.1 ∷ others) (subst (Stands area) split stands) in
      absurd (shut there.2)

  pub log_once : (batches others : List Batch) → HasLog area batches → HasLog area others → batches ≡ others
  log_once batches others has other_has = elim (overlap batches others has.stands other_has.stands) [
    | inl found ↦ none_after batches others found.0 other_has.closed has.stands found.1
    | inr found ↦ sym (none_after others batches found.0 has.closed other_has.stands found.1)
  ]
