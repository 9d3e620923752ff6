-- What is sound is not damaged, and what an opening reads of it.
use Rattle.std.specs.List.{AllByRecursion}
use Rattle.std.proofs.Common.{◌≡◌, inl, inr, ℕ, List, [], ◌∷◌, ◌++◌, None, refl, sym, ap, subst, ◌∙◌, arith}
use Rattle.rm_types.specs.declared.slots.Slot.{Slot}
use Rattle.rm_types.specs.declared.areas.Area.{Area}
use Rattle.rm_types.specs.declared.areas.Area.TheVariants.{Master, Log, Data, Space, Copy}
use Rattle.rm_outside.specs.Images.{Bytes, Image, Shows}
use Rattle.rm_master.specs.declared.fields.Fields.{Fields}
use Rattle.rm_master.specs.Fields.{fresh_fields, slot_bytes}
use Rattle.rm_master.specs.Slots.{HasFields, IsUnmade, IsDamagedAt as IsMasterDamagedAt, current, slot_at}
use Rattle.rm_master.specs.Fresh.{IsFresh}
use Rattle.rm_master.proofs.SlotLemmas.{one_shown}
use Rattle.rm_wal.specs.Tails.{LogValue}
use Rattle.rm_history.specs.Logs.{Batch}
use Rattle.rm_types.specs.declared.formats.Format.{Format}
use Rattle.rm_types.specs.declared.formats.Format.TheVariants.{One}
use Rattle.rm_history.specs.Acts.{Act, History, changes, undoes, enters, commits, ends, marks}
use Rattle.rm_history.specs.Pending.{pending_of}
use Rattle.rm_history.specs.Rules.{IsInOrder}
use Rattle.rm_history.specs.Batched.{acts_of_batches, AreBelow}
use Rattle.rm_history.proofs.Readings.{log_once}
use Rattle.rm_history.proofs.Damages.{damaged_has_no_log}
use Rattle.rm_history.proofs.Prefixes.{prefixes_are_in_order}
use Rattle.rm_image.specs.Starts.{Start}
use Rattle.rm_image.specs.Whole.{IsLogSound}
use Rattle.rm_image.specs.ImageLaws.{IsOfTxn}
use Rattle.rm_image.proofs.SoundLaws.{log_images_are_sound}
use Rattle.rm_image.proofs.CheckpointLaws.{checkpoints_are_records}
use Rattle.rm_restart.specs.Plain.{IsPlain, ArePlain}
use Rattle.rm_restart.specs.Sound.{PlainRules, start_of, IsImageOf, IsSoundLog, IsPlainImage, Holds}
use Rattle.rm_restart.specs.Opening.{Opens, NeedsUndoOf, IsDamage, IsMisfitAt, IsMisfitOf, NamesCheckpoint}
use Rattle.rm_restart.specs.Laws.{IsReadFrom}
use Rattle.rm_restart.proofs.Misfits.{not_misfit}
use Rattle.rm_restart.proofs.PlainLaws.{page_fits}

-- an area has one reading
pub fields_once : (area : Bytes) (f g : Fields) → HasFields area f → HasFields area g → f ≡ g
fields_once area f g f_has g_has = one_shown area (slot_at (current area)) f g f_has.rules g_has.rules f_has.slot g_has.slot

-- ---- plain images

-- the records of a plain history are of transactions
of_txn : (act : Act) → IsPlain act → IsOfTxn act
of_txn (changes c) is = tt
of_txn (undoes u) is = absurd is
of_txn (enters e) is = absurd is
of_txn (commits f) is = tt
of_txn (ends f) is = absurd is
of_txn (marks m) is = absurd is

all_of_txn : (history : History) → ArePlain history → AllByRecursion IsOfTxn history
all_of_txn [] plain = tt
all_of_txn (act ∷ before) plain = (of_txn act plain.0, all_of_txn before plain.1)

-- a log begins in the one format
abbrev start_with : Format → ℕ → Start
start_with format pages = record { format = format; pages = pages }

one_start : (format : Format) (pages others : ℕ) → pages ≡ others → start_with format others ≡ start_of pages
one_start One pages others same = ap start_of (sym same)

pub plain_log : (content : Image) (image : IsPlainImage content) → IsSoundLog image.fields.pages image.batches
plain_log content image =
    subst (λ (start : Start). IsLogSound PlainRules start image.batches) (one_start image.start.format image.fields.pages image.start.pages image.sound.size) image.sound.log

names_none : (content : Image) (image : IsPlainImage content) → image.fields.checkpoint ≡ 0
names_none content image =
    checkpoints_are_records image.fields image.batches image.sound.checkpoint.named (all_of_txn (acts_of_batches image.batches) image.sound.log.rules.1) image.sound.checkpoint.has

pub plain_image_of : (content : Image) (image : IsPlainImage content) → IsImageOf image.fields.pages image.batches content
plain_image_of content image = record {
  fields = image.fields;
  master = image.sound.master;
  size = refl;
  checkpoint = names_none content image;
  half = image.half;
  log = image.sound.has_log;
}

-- so each image of a sound log is one
abbrev pub plain_image : (pages : ℕ) (batches : List Batch) (c : Image) → IsImageOf pages batches c → IsSoundLog pages batches → IsPlainImage c
plain_image pages batches c image log = record {
  start = start_of pages;
  fields = image.fields;
  batches = batches;
  sound = (log_images_are_sound PlainRules c (start_of pages) image.fields batches image.checkpoint image.half).1 (record {
    master = image.master;
    version = image.master.rules.file.known;
    size = image.size;
    has_log = image.log;
    log = log;
  });
  half = image.half;
}

-- the master

pub sound_is_made : (content : Image) → IsUnmade content → IsPlainImage content → ⊥
sound_is_made content unmade image = unmade image.sound.master.made

pub master_not_damaged : (area : Bytes) (at : ℕ) (fields : Fields) → IsMasterDamagedAt area at → HasFields area fields → ⊥
master_not_damaged area at fields damaged has =
    damaged.none fields has.rules (subst (λ (n : ℕ). Shows area n (slot_bytes fields)) (sym damaged.place) has.slot)

no_checkpoint : (content : Image) (at : ℕ) → NamesCheckpoint content at → IsPlainImage content → ⊥
no_checkpoint content at names image =
    let same = fields_once (content Master) names.fields image.fields names.read image.sound.master in
    names.some (names.place ∙ ap (λ (f : Fields). f.checkpoint) same ∙ names_none content image)

-- the log

after : (P : Act → Type 0) (more before : History) → AllByRecursion P (more ++ before) → AllByRecursion P before
after P [] before all = all
after P (newest ∷ more) before all = after P more before all.1

below_after : (pages : ℕ) (more before : History) → AreBelow pages (more ++ before) → AreBelow pages before
below_after pages [] before all = all
below_after pages (newest ∷ more) before all = below_after pages more before all.1

none_misfits : (pages : ℕ) (history : History) (at : ℕ) → IsInOrder history → ArePlain history → AreBelow pages history → IsMisfitAt pages history at → ⊥
none_misfits pages history at ordered plain below misfit =
    let here : History = misfit.act ∷ misfit.before in
    let ordered_here : IsInOrder here = prefixes_are_in_order misfit.more here (subst IsInOrder misfit.split ordered) in
    let plain_here : ArePlain here = after IsPlain misfit.more here (subst ArePlain misfit.split plain) in
    let below_here : AreBelow pages here = below_after pages misfit.more here (subst (AreBelow pages) misfit.split below) in
    not_misfit pages misfit.before misfit.act below_here.0 plain_here.0 (page_fits here ordered_here) misfit.misfit

no_misfit : (content : Image) (at : ℕ) → IsMisfitOf content at → IsPlainImage content → ⊥
no_misfit content at misfit image =
    let fields = fields_once (content Master) misfit.fields image.fields misfit.read image.sound.master in
    let batches : misfit.batches ≡ image.batches = log_once (content Log) misfit.batches image.batches misfit.has_log image.sound.has_log in
    let moved : IsMisfitAt image.fields.pages (acts_of_batches misfit.batches) at =
    subst (λ (f : Fields). IsMisfitAt f.pages (acts_of_batches misfit.batches) at) fields misfit.misfit in
    let log = plain_log content image in
    none_misfits image.fields.pages (acts_of_batches image.batches) at log.rules.0 log.rules.1 log.below
    (subst (λ (b : List Batch). IsMisfitAt image.fields.pages (acts_of_batches b) at) batches moved)

pub sound_is_not_damaged : (content : Image) (area : Area) (at : ℕ) → IsDamage content area at → IsPlainImage content → ⊥
sound_is_not_damaged content Master at damaged image = master_not_damaged (content Master) at image.fields damaged image.sound.master
sound_is_not_damaged content Log at (inl names) image = no_checkpoint content at names image
sound_is_not_damaged content Log at (inr (inl damage)) image = damaged_has_no_log (content Log) at image.batches damage.damage image.sound.has_log
sound_is_not_damaged content Log at (inr (inr misfit)) image = no_misfit content at misfit image
sound_is_not_damaged content Data at damaged image = damaged
sound_is_not_damaged content Space at damaged image = damaged
sound_is_not_damaged content Copy at damaged image = damaged

-- an empty log
empty_is_sound : (pages : ℕ) → IsSoundLog pages []
empty_is_sound pages = record { rules = (tt, tt); below = tt; room = omega arith }

pub fresh_is_sound : (pages : ℕ) (content : Image) → IsFresh pages content → (held : Holds 0 (λ rid. None) content) × (held.image.fields.pages ≡ pages)
fresh_is_sound pages content fresh =
    let image : IsImageOf pages [] content = record {
      fields = fresh_fields pages;
      master = fresh.fields;
      size = refl;
      checkpoint = refl;
      half = refl;
      log = record { stands = tt; closed = fresh.cleared.gate };
    } in
    (record { image = plain_image pages [] content image (empty_is_sound pages); commits_are = refl; rows_are = refl }, refl)

-- what an opening reads
pub opened_is_sound : (modelled : Type 0) (content : Image) (limit : ℕ) (pages : List (List Slot)) (next : ℕ) (log : LogValue) (inserted : ℕ)
    (opens : Opens modelled content limit pages next log inserted) → modelled → (image : IsPlainImage content) → IsReadFrom content image opens
opened_is_sound modelled content limit pages next log inserted opens models image =
    let fields : image.fields ≡ opens.fields = fields_once (content Master) image.fields opens.fields image.sound.master (opens.read.has_fields models) in
    let batches : image.batches ≡ opens.batches = log_once (content Log) image.batches opens.batches image.sound.has_log (opens.read.has_log models) in
    record {
      batches_are = batches;
      pages_are = ap (λ (f : Fields). f.pages) fields;
      sound_log = subst (λ (b : List Batch). IsSoundLog opens.fields.pages b) batches (subst (λ (f : Fields). IsSoundLog f.pages image.batches) fields (plain_log content image));
      image_of = record {
        fields = opens.fields;
        master = opens.read.has_fields models;
        size = refl;
        checkpoint = opens.read.checkpoint;
        half = ap (λ (f : Fields). f.half) (sym fields) ∙ image.half;
        log = opens.read.has_log models;
      };
    }

pub opened_needs_no_undo : (modelled : Type 0) (content : Image) (limit : ℕ) (pages : List (List Slot)) (next : ℕ) (log : LogValue) (inserted id : ℕ)
    → Opens modelled content limit pages next log inserted → NeedsUndoOf modelled content id → modelled → ⊥
opened_needs_no_undo modelled content limit pages next log inserted id opens needs models =
    let batches : needs.batches ≡ opens.batches = log_once (content Log) needs.batches opens.batches (needs.read.has_log models) (opens.read.has_log models) in
    needs.pends (ap (λ (b : List Batch). pending_of (acts_of_batches b) id) batches ∙ opens.settled id)
