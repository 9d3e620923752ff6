-- An empty block stands for a page that a copy lacks, and a page that the file lacks is empty.
use Rattle.std.proofs.Common.{◌≡◌, inl, inr, ℕ, ◌+◌, ◌<◌, ◌≤◌, Bool, cond, nat_lt, List, [], ◌∷◌, length}
use Rattle.std.proofs.Common.{refl, ◌∙◌, sym, subst, arith}
use Rattle.std.proofs.lemmas.Bool.{cases_lt, lt-ltb, le-ltb, cond_both}
use Rattle.std.specs.List.{AllByRecursion}
use Rattle.rm_history.specs.declared.TheConstants.{BATCH_HEADER}
use Rattle.rm_history.specs.Acts.{Act, History, changes, undoes, act_at, lsn_of}
use Rattle.rm_history.specs.Logs.{Batch, gate_of}
use Rattle.rm_history.specs.Batched.{acts_after, acts_of_batches, batch_of, IsGate, IsBelow, AreBelow}
use Rattle.rm_history.specs.Rules.{IsInOrder}
use Rattle.rm_history.proofs.Appending.{lsn_of-act_at, length-spelling_all}
use Rattle.rm_history.proofs.Readings.{spelling_long}
use Rattle.rm_record.specs.declared.records.LogRecord.{LogRecord}
use Rattle.rm_record.specs.Records.{spelling, spelling_all}
use Rattle.rm_image.specs.Starts.{records_before}
use Rattle.rm_image.specs.Standing.{IsOnPage, HoldsPage, StandsFor}
use Rattle.rm_image.specs.ImageLaws.{PagesPastTheCopyAreEmpty, PagesPastTheFileAreEmpty}
use Rattle.rm_image.proofs.PrefixLaws.{version_off, page_off}
use Rattle.rm_image.proofs.Gates.{gate_within}

-- where a record of these batches stands: before their end, and its batch is not before a gate that it is not before
record IsPlaced (batches : List Batch) (lsn : ℕ) : Type 0 where
  within : lsn < gate_of batches
  late : (gate : ℕ) → IsGate batches gate → gate ≤ lsn → gate ≤ batch_of batches lsn

-- so it is after one more batch,
earlier_gate : (batch : Batch) (batches : List Batch) (lsn gate : ℕ) → lsn < gate_of (batch ∷ batches)
    → IsGate (batch ∷ batches) gate
    → gate ≤ lsn → IsGate batches gate
earlier_gate batch batches lsn gate within (inl is) le = absurd (omega (arith, is, le, within))
earlier_gate batch batches lsn gate within (inr earlier) le = earlier

still_placed : (batch : Batch) (batches : List Batch) (lsn : ℕ) → IsPlaced batches lsn → IsPlaced (batch ∷ batches) lsn
still_placed batch batches lsn placed =
    let within : lsn < gate_of (batch ∷ batches) = omega (arith, placed.within) in
    record {
      within = within;
      late = λ gate is le. rw (le-ltb (gate_of batches) lsn (omega (arith, placed.within)))
          (placed.late gate (earlier_gate batch batches lsn gate within is le) le);
    }

-- and so it is in that batch
newly_placed : (batch : Batch) (batches : List Batch) (lsn : ℕ) → gate_of batches < lsn → lsn < gate_of (batch ∷ batches)
    → IsPlaced (batch ∷ batches) lsn
newly_placed batch batches lsn after within = record {
  within = within;
  late = λ gate is le. rw (lt-ltb (gate_of batches) lsn after)
      (gate_within batches gate (earlier_gate batch batches lsn gate within is le));
}

placed_after : (batch : Batch) (batches : List Batch) (history : History) (at : ℕ) (records : List LogRecord)
    → gate_of batches < at → at + length (spelling_all records) ≤ gate_of (batch ∷ batches)
    → AllByRecursion (λ act. IsPlaced (batch ∷ batches) (lsn_of act)) history
    → AllByRecursion (λ act. IsPlaced (batch ∷ batches) (lsn_of act)) (acts_after history at records)
placed_after batch batches history at [] after within all = all
placed_after batch batches history at (next ∷ records) after within all =
    let longer : length (spelling_all (next ∷ records)) ≡ length (spelling next) + length (spelling_all records) = length-spelling_all next records in
    let placed : IsPlaced (batch ∷ batches) (lsn_of (act_at at next)) =
    subst (IsPlaced (batch ∷ batches)) (sym (lsn_of-act_at at next)) (newly_placed batch batches at after
    (omega (arith, within, longer, spelling_long next))) in
    placed_after batch batches (act_at at next ∷ history) (at + length (spelling next)) records (omega (arith, after)) (omega (arith, within, longer))
    (placed, all)

all_still_placed : (batch : Batch) (batches : List Batch) (history : History)
    → AllByRecursion (λ act. IsPlaced batches (lsn_of act)) history
    → AllByRecursion (λ act. IsPlaced (batch ∷ batches) (lsn_of act)) history
all_still_placed batch batches [] all = tt
all_still_placed batch batches (act ∷ before) all =
    (still_placed batch batches (lsn_of act) all.0, all_still_placed batch batches before all.1)

all_placed : (batches : List Batch) → AllByRecursion (λ act. IsPlaced batches (lsn_of act)) (acts_of_batches batches)
all_placed [] = tt
all_placed (batch ∷ batches) =
    placed_after batch batches (acts_of_batches batches) (gate_of batches + BATCH_HEADER) batch (omega arith) (omega arith)
    (all_still_placed batch batches (acts_of_batches batches) (all_placed batches))

-- what holds of all records holds of those before an offset
all_before : (P : Act → Type 0) (at : ℕ) (history : History) → AllByRecursion P history
    → AllByRecursion P (records_before at history)
all_before P at [] all = tt
all_before P at (act ∷ before) all =
    cond_both (nat_lt (lsn_of act) at) (act ∷ before) (records_before at before) (AllByRecursion P) (λ here. all) (λ there. all_before P at before all.1)

-- a record that names pages below n is on no other
not_on : (n page : ℕ) (act : Act) → n ≤ page → IsBelow n act → IsOnPage page act → ⊥
not_on n page (changes c) past below on = omega (arith, past, below, on)
not_on n page (undoes u) past below on = omega (arith, past, below, on)
not_on n page other past below on = on

module _ (batches : List Batch) (start n page : ℕ) (gate : IsGate batches start) (past : n ≤ page) where
  empty_stands : (history : History) → IsInOrder history → AllByRecursion (λ act. IsPlaced batches (lsn_of act)) history
      → AllByRecursion (IsBelow n) (records_before start history) → StandsFor (batch_of batches) history page 0 [] start
  empty_stands [] ordered placed below = (refl, refl)
  empty_stands (act ∷ before) ordered placed below = (
    λ has. absurd (omega (arith, has, ordered.1.above)),
    λ above. elim (cases_lt (lsn_of act) start) [
      | inl early ↦
          let all : AllByRecursion (IsBelow n) (act ∷ before) =
          subst (λ (b : Bool). AllByRecursion (IsBelow n) (cond b (act ∷ before) (records_before start before))) (lt-ltb (lsn_of act) start early) below in (
            λ on. absurd (not_on n page act past all.0 on),
            empty_stands before ordered.0 placed.1 (all_before (IsBelow n) start before all.1),
          )
      | inr late ↦
          let rest : AllByRecursion (IsBelow n) (records_before start before) =
          subst (λ (b : Bool). AllByRecursion (IsBelow n) (cond b (act ∷ before) (records_before start before))) (le-ltb (lsn_of act) start late) below in
          (λ on. placed.0.late start gate late, empty_stands before ordered.0 placed.1 rest)
    ],
  )

pub pages_past_the_copy_are_empty : PagesPastTheCopyAreEmpty
pages_past_the_copy_are_empty area format batches half start n page ordered copy past =
    empty_stands batches start n page copy.gate past (acts_of_batches batches) ordered (all_placed batches) copy.below

-- ---- pages past the file

empty_page : (pages page : ℕ) (history : History) → AreBelow pages history → pages ≤ page → HoldsPage page 0 [] history
empty_page pages page [] below past = (refl, refl)
empty_page pages page (act ∷ before) below past =
    let off : IsOnPage page act → ⊥ = not_on pages page act past below.0 in
    let rest : HoldsPage page 0 [] before = empty_page pages page before below.1 past in
    (rest.0 ∙ sym (version_off page act before off), rest.1 ∙ sym (page_off page act before off))

pub pages_past_the_file_are_empty : PagesPastTheFileAreEmpty
pages_past_the_file_are_empty start batches page below past = empty_page start.pages page (acts_of_batches batches) below past
