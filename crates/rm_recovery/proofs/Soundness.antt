-- What is sound is not damaged.
use Rattle.std.specs.List.{AllByRecursion}
use Rattle.std.proofs.Common.{◌≡◌, inl, inr, ℕ, ◌+◌, ◌≤◌, ◌<◌, List, [], ◌∷◌, ◌++◌, length, Some, None, refl, sym, ap, subst, ◌∙◌, arith}
use Rattle.std.proofs.lemmas.Bool.{cases_lt}
use Rattle.rm_types.specs.declared.areas.Area.{Area}
use Rattle.rm_types.specs.declared.areas.Area.TheVariants.{Master, Log, Data, Space, Copy}
use Rattle.rm_types.specs.declared.formats.Format.{Format}
use Rattle.rm_types.specs.declared.formats.Format.TheVariants.{One}
use Rattle.rm_types.specs.declared.numbers.Rid.{Rid}
use Rattle.rm_types.specs.declared.slots.Slot.{Slot}
use Rattle.rm_types.specs.declared.slots.Slot.TheVariants.{Vacant, Row}
use Rattle.rm_types.specs.declared.slots.TheConstants.{CAPACITY}
use Rattle.rm_outside.specs.Images.{Bytes, Image, Shows}
use Rattle.rm_master.specs.declared.fields.Fields.{Fields}
use Rattle.rm_master.specs.Fields.{slot_bytes}
use Rattle.rm_master.specs.Slots.{HasFields, IsUnmade, IsDamagedAt as IsMasterDamagedAt, current, slot_at}
use Rattle.rm_master.proofs.SlotLemmas.{one_shown}
use Rattle.std.proofs.lemmas.Option.{none-some}
use Rattle.rm_model.specs.Pages.{row_of, used, set_slot, slot_at as held_at}
use Rattle.rm_model.proofs.Slots.{row_at_past}
use Rattle.rm_record.specs.declared.records.LogRecord.{LogRecord}
use Rattle.rm_record.specs.Records.{spelling}
use Rattle.rm_history.specs.declared.TheConstants.{BATCH_HEADER}
use Rattle.rm_history.specs.Acts.{Act, Change, Undo, History, changes, undoes, enters, commits, ends, marks, act_at, lsn_of}
use Rattle.rm_history.specs.Batched.{AreBelow, acts_after, acts_of_batches}
use Rattle.rm_history.specs.Contents.{page_of}
use Rattle.rm_history.specs.Legal.{IsLegal}
use Rattle.rm_history.specs.Logs.{AreBatches, Batch, Stands, gate_of}
use Rattle.rm_history.specs.Rules.{MayUndo}
use Rattle.rm_history.specs.Sizes.{record_of}
use Rattle.rm_history.specs.UndoBytes.{undo_bytes}
use Rattle.rm_history.proofs.Appending.{lsn_of-act_at}
use Rattle.rm_history.proofs.Chains.{last_is_inside}
use Rattle.rm_history.proofs.Damages.{damaged_has_no_log}
use Rattle.rm_history.proofs.PendingSteps.{if_equal}
use Rattle.rm_history.proofs.Prefixes.{legal_prefixes}
use Rattle.rm_history.proofs.Readings.{log_once}
use Rattle.rm_history.proofs.RecordsOfActs.{record_of-act_at}
use Rattle.rm_apply.specs.Redo.{CannotHave}
use Rattle.rm_image.specs.ImageLaws.{IsOfTxn}
use Rattle.rm_pool.proofs.Journals.{batches_end}
use Rattle.rm_recovery.specs.Laws.{IsOfLog}
use Rattle.rm_recovery.specs.Opening.{IsDamage, IsDamageOf, IsRecordDamage, NamesCheckpoint}
use Rattle.rm_recovery.specs.Redone.{IsMisfit, IsMisfitAt}
use Rattle.rm_recovery.proofs.Stops.{never_stops}

-- ---- the master

-- an area has one reading
fields_once : (area : Bytes) (f g : Fields) → HasFields area f → HasFields area g → f ≡ g
fields_once area f g f_has g_has = one_shown area (slot_at (current area)) f g f_has.rules g_has.rules f_has.slot g_has.slot

pub sound_is_made : (content : Image) → IsUnmade content → IsOfLog content → ⊥
sound_is_made content unmade image = unmade image.sound.master.made

master_not_damaged : (area : Bytes) (at : ℕ) (fields : Fields) → IsMasterDamagedAt area at → HasFields area fields → ⊥
master_not_damaged area at fields damaged has =
    damaged.none fields has.rules (subst (λ (n : ℕ). Shows area n (slot_bytes fields)) (sym damaged.place) has.slot)

no_checkpoint : (content : Image) (at : ℕ) → NamesCheckpoint content at → IsOfLog content → ⊥
no_checkpoint content at names image =
    let same = fields_once (content Master) names.fields image.fields names.read image.sound.master in
    names.some (names.place ∙ ap (λ (f : Fields). f.checkpoint) same ∙ image.checkpoint)

-- ---- the acts of a log are those of records

abbrev AreOfRecords : History → Type 0
AreOfRecords history = AllByRecursion (λ act. act_at (lsn_of act) (record_of act) ≡ act) history

made_after : (history : History) (at : ℕ) (records : List LogRecord) → AreOfRecords history → AreOfRecords (acts_after history at records)
made_after history at [] are = are
made_after history at (next ∷ records) are =
    let made : act_at (lsn_of (act_at at next)) (record_of (act_at at next)) ≡ act_at at next =
    ap (λ (n : ℕ). act_at n (record_of (act_at at next))) (lsn_of-act_at at next) ∙ ap (act_at at) (record_of-act_at at next) in
    made_after (act_at at next ∷ history) (at + length (spelling next)) records (made, are)

made_of_batches : (batches : List Batch) → AreOfRecords (acts_of_batches batches)
made_of_batches [] = tt
made_of_batches (batch ∷ batches) = made_after (acts_of_batches batches) (gate_of batches + BATCH_HEADER) batch (made_of_batches batches)

-- ---- its records fit

all_before : (P : Act → Type 0) (more before : History) → AllByRecursion P (more ++ before) → AllByRecursion P before
all_before P [] before all = all
all_before P (newest ∷ more) before all = all_before P more before all.1

below_before : (pages : ℕ) (more before : History) → AreBelow pages (more ++ before) → AreBelow pages before
below_before pages [] before all = all
below_before pages (newest ∷ more) before all = below_before pages more before all.1

-- past the directory there is no row
has_row : (slots : List Slot) (number : ℕ) (row : List ℕ) → held_at slots number ≡ Row row → number < length slots
has_row slots number row is = elim (cases_lt number (length slots)) [
  | inl inside ↦ inside
  | inr past ↦ let none : None ≡ Some row = sym (row_at_past slots number past) ∙ ap row_of is in absurd (none-some row none)
]

-- a change that vacates its slot is a delete, which the slot's page has
vacates : (before : History) (c : Change) (held : Slot) → c.before ≡ held → c.after ≡ Vacant → act_at c.lsn (record_of (changes c)) ≡ changes c
    → held_at (page_of before c.rid.page) c.rid.slot ≡ c.before → length (page_of before c.rid.page) ≤ c.rid.slot → ⊥
vacates before c Vacant was after made there past = absurd cc
vacates before c (Row old) was after made there past = omega (arith, past, has_row (page_of before c.rid.page) c.rid.slot old (there ∙ was))

change_fits : (pages : ℕ) (before : History) (c : Change) (after : Slot) → c.after ≡ after → IsLegal One (changes c ∷ before)
    → act_at c.lsn (record_of (changes c)) ≡ changes c → CannotHave (page_of before c.rid.page) c.rid.slot after → ⊥
change_fits pages before c Vacant is legal made past = vacates before c c.before refl is made legal.1.may_come.held past
change_fits pages before c (Row row) is legal made over =
    let fits : used (page_of (changes c ∷ before) c.rid.page) + 0 ≤ CAPACITY = legal.1.fits c.rid.page 0 in
    let page : page_of (changes c ∷ before) c.rid.page ≡ set_slot (page_of before c.rid.page) c.rid.slot c.after =
    if_equal c.rid.page c.rid.page (set_slot (page_of before c.rid.page) c.rid.slot c.after) (page_of before c.rid.page) refl in
    let same = page ∙ ap (λ (slot : Slot). set_slot (page_of before c.rid.page) c.rid.slot slot) is in
    omega (arith, over, fits, ap used same)

undo_fits : (pages : ℕ) (before : History) (u : Undo) (back : Slot) → u.back ≡ back → IsLegal One (undoes u ∷ before)
    → CannotHave (page_of before u.rid.page) u.rid.slot back → ⊥
undo_fits pages before u Vacant is legal past =
    let may : MayUndo before u = legal.1.may_come in
    let inside = last_is_inside before u.txn may.last may.is_last.0 may.is_last.1 in
    absurd (omega (arith, past, subst (λ (rid : Rid). rid.slot < length (page_of before rid.page)) (sym may.rid_is) inside))
undo_fits pages before u (Row row) is legal over =
    let fits : used (page_of (undoes u ∷ before) u.rid.page) + 0 ≤ CAPACITY = legal.1.fits u.rid.page 0 in
    let page : page_of (undoes u ∷ before) u.rid.page ≡ set_slot (page_of before u.rid.page) u.rid.slot u.back =
    if_equal u.rid.page u.rid.page (set_slot (page_of before u.rid.page) u.rid.slot u.back) (page_of before u.rid.page) refl in
    let same = page ∙ ap (λ (slot : Slot). set_slot (page_of before u.rid.page) u.rid.slot slot) is in
    omega (arith, over, fits, ap used same)

not_misfit : (pages : ℕ) (before : History) (act : Act) → IsLegal One (act ∷ before) → AreBelow pages (act ∷ before) → IsOfTxn act
    → act_at (lsn_of act) (record_of act) ≡ act → IsMisfit pages before act → ⊥
not_misfit pages before (changes c) legal below of made (inl past) = omega (arith, past, below.0)
not_misfit pages before (changes c) legal below of made (inr cannot) = change_fits pages before c c.after refl legal made cannot
not_misfit pages before (undoes u) legal below of made (inl past) = omega (arith, past, below.0)
not_misfit pages before (undoes u) legal below of made (inr cannot) = undo_fits pages before u u.back refl legal cannot
not_misfit pages before (enters e) legal below of made (inl past) = omega (arith, past, below.0)
not_misfit pages before (enters e) legal below of made (inr greater) = elim legal.2.entered.right [
  | inl page ↦ omega (arith, greater, page)
  | inr undone ↦ omega (arith, greater, undone.2)
]
not_misfit pages before (commits f) legal below of made misfit = misfit
not_misfit pages before (ends f) legal below of made misfit = misfit
not_misfit pages before (marks m) legal below of made misfit = of

no_misfit : (pages : ℕ) (history : History) (at : ℕ) → IsLegal One history → AreBelow pages history → AllByRecursion IsOfTxn history → AreOfRecords history
    → IsMisfitAt pages history at → ⊥
no_misfit pages history at legal below of made misfit =
    let here : History = misfit.act ∷ misfit.before in
    not_misfit pages misfit.before misfit.act
    (legal_prefixes One misfit.more here (subst (IsLegal One) misfit.split legal))
    (below_before pages misfit.more here (subst (AreBelow pages) misfit.split below))
    (all_before IsOfTxn misfit.more here (subst (AllByRecursion IsOfTxn) misfit.split of)).0
    (all_before (λ act. act_at (lsn_of act) (record_of act) ≡ act) misfit.more here (subst AreOfRecords misfit.split made)).0
    misfit.misfit

-- ---- the whole log

standing_are_batches : (area : Bytes) (batches : List Batch) → Stands area batches → AreBatches batches
standing_are_batches area [] stands = tt
standing_are_batches area (batch ∷ batches) stands = (standing_are_batches area batches stands.0, stands.1)

one_format : (format : Format) → format ≡ One
one_format One = refl

no_record_damage : (content : Image) (at : ℕ) → IsRecordDamage content at → IsOfLog content → ⊥
no_record_damage content at damage image =
    let history : History = acts_of_batches image.batches in
    let same : damage.fields ≡ image.fields = fields_once (content Master) damage.fields image.fields damage.read image.sound.master in
    let batches : damage.batches ≡ image.batches = log_once (content Log) damage.batches image.batches damage.has_log image.sound.has_log in
    let pages : damage.fields.pages ≡ image.start.pages = ap (λ (f : Fields). f.pages) same ∙ image.sound.size in
    let log = image.sound.log in
    let one = one_format image.start.format in
    let legal : IsLegal One history = subst (λ (f : Format). IsLegal f history) one log.rules.0 in
    let end = batches_end image.batches (standing_are_batches (content Log) image.batches image.sound.has_log.stands) in
    let bytes : undo_bytes image.start.format history ≡ undo_bytes One history = ap (λ (f : Format). undo_bytes f history) one in
    elim (subst (λ (n : ℕ). IsDamageOf n history at) pages (subst (λ (b : List Batch). IsDamageOf damage.fields.pages (acts_of_batches b) at) batches damage.damage)) [
      | inl misfit ↦ no_misfit image.start.pages history at legal log.below log.rules.1 (made_of_batches image.batches) misfit
      | inr undo ↦ never_stops legal log.below (omega (arith, end, bytes, log.room)) undo.1
    ]

pub sound_is_not_damaged : (content : Image) (area : Area) (at : ℕ) → IsDamage content area at → IsOfLog content → ⊥
sound_is_not_damaged content Master at damaged image = master_not_damaged (content Master) at image.fields damaged image.sound.master
sound_is_not_damaged content Log at (inl names) image = no_checkpoint content at names image
sound_is_not_damaged content Log at (inr (inl damage)) image = damaged_has_no_log (content Log) at image.batches damage.damage image.sound.has_log
sound_is_not_damaged content Log at (inr (inr damage)) image = no_record_damage content at damage image
sound_is_not_damaged content Data at damaged image = damaged
sound_is_not_damaged content Space at damaged image = damaged
sound_is_not_damaged content Copy at damaged image = damaged
