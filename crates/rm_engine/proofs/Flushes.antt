-- What a flush and an append make of where a session stands.
use Rattle.std.proofs.Common.{◌≡◌, ◌⊎◌, inl, inr, ℕ, ◌+◌, ◌-◌, ◌<◌, ◌≤◌, true, false, List, [], ◌∷◌, ◌++◌, length, refl, sym, ap, subst, ◌∙◌, arith, length-append}
use Rattle.std.specs.List.{AllByRecursion}
use Rattle.std.proofs.lemmas.Grind.{flat_map-append}
use Rattle.std.proofs.lemmas.Bool.{true≢false}
use Rattle.std.proofs.lemmas.List.{append-nil}
use Rattle.rm_types.specs.declared.areas.Area.TheVariants.{Master, Log}
use Rattle.rm_types.specs.declared.numbers.Lsn.{Lsn}
use Rattle.rm_types.specs.declared.numbers.Rid.{Rid}
use Rattle.rm_types.specs.declared.numbers.TxnId.{TxnId}
use Rattle.rm_outside.specs.Images.{Bytes, Image}
use Rattle.rm_model.specs.Object.{Rows}
use Rattle.rm_model.specs.Files.{rows_of, set_row}
use Rattle.rm_session.specs.Session.{IsPlaceFor, Core}
use Rattle.rm_record.specs.declared.records.LogRecord.{LogRecord}
use Rattle.rm_record.specs.declared.records.LogRecord.TheVariants.{Insert, Commit}
use Rattle.rm_record.specs.Records.{spelling, spelling_all, IsRecord}
use Rattle.rm_history.specs.declared.TheConstants.{BATCH_HEADER}
use Rattle.rm_history.specs.Logs.{Batch, gate_of, HasLog}
use Rattle.rm_history.specs.Acts.{act_at, newest_lsn}
use Rattle.rm_history.specs.Rows.{rows_of_log}
use Rattle.rm_history.specs.Counts.{commit_count}
use Rattle.rm_history.specs.Batched.{acts_of_batches}
use Rattle.rm_history.proofs.Appending.{acts_after-snoc, newest_below, newest_of_batches}
use Rattle.rm_wal.specs.Tails.{LogValue, end_of}
use Rattle.rm_wal.specs.Flushing.{ComesByFlush, Tails, HasEither, written_tail}
use Rattle.rm_master.specs.Slots.{HasFields}
use Rattle.rm_restart.specs.Sound.{IsImageOf, IsSoundLog, Holds}
use Rattle.rm_restart.proofs.PlainUndo.{undo_bytes-one, undo_bytes-none}
use Rattle.rm_restart.proofs.Soundness.{plain_image}
use Rattle.rm_engine.specs.Numbers.{IsReady}
use Rattle.rm_engine.specs.At.{IsAtHistory, IsAt, whole_history}
use Rattle.rm_engine.proofs.Steps.{begun, inserted, committed}

-- an image whose log alone is another
pub image_with_log : (pages : ℕ) (batches others : List Batch) (d c : Image) → IsImageOf pages batches d → c Master ≡ d Master → HasLog (c Log) others → IsImageOf pages others c
image_with_log pages batches others d c image same has = record {
  fields = image.fields;
  master = subst (λ (area : Bytes). HasFields area image.fields) (sym same) image.master;
  size = image.size;
  checkpoint = image.checkpoint;
  half = image.half;
  log = has;
}

pub holds_of : (pages count : ℕ) (rows : Rows) (batches : List Batch) (c : Image) → IsImageOf pages batches c → IsSoundLog pages batches
    → commit_count (acts_of_batches batches) ≡ count → rows_of_log (acts_of_batches batches) ≡ rows → Holds count rows c
holds_of pages count rows batches c image sound counted same = record {
  image = plain_image pages batches c image sound;
  commits_are = counted;
  rows_are = same;
}

-- one record more in the tail
spelling_all-snoc : (records : List LogRecord) (next : LogRecord) → spelling_all (records ++ next ∷ []) ≡ spelling_all records ++ spelling next
spelling_all-snoc records next = flat_map-append spelling records (next ∷ []) ∙ ap (λ (l : List ℕ). spelling_all records ++ l) (append-nil (spelling next))

all-snoc : (records : List LogRecord) (next : LogRecord) → AllByRecursion IsRecord records → IsRecord next → AllByRecursion IsRecord (records ++ next ∷ [])
all-snoc [] next all is = (is, tt)
all-snoc (first ∷ records) next all is = (all.0, all-snoc records next all.1 is)

module _ (pages count : ℕ) (rows : Rows) (core : Core) (log : LogValue) (under inserts : ℕ) (left : Image → Type 0) (at : IsAt pages count rows core log under inserts left) where
  -- what a crash may leave has these rows
  pub holds_now : (c : Image) → left c → Holds count rows c
  holds_now c now = holds_of pages count rows at.batches c (at.images c now) at.sound at.commits_stand at.rows_stand

  -- the images have the log whose batches stand
  pub tails : Tails log.batch log.tail left at.batches at.tail
  tails = record { gate_is = at.batch_is; spelled = at.tail_is; records = at.records; logs = λ c now. (at.images c now).log }

  master_stays : (c : Image) → ComesByFlush log.batch (written_tail log.tail) left c → (d : Image) × left d × (c Master ≡ d Master)
  master_stays c comes = (comes.0, comes.1, comes.2.others.each Master (λ same. cc))

  end_is : gate_of (at.tail ∷ at.batches) ≡ end_of log
  end_is = omega (arith, at.batch_is, ap (λ (l : List ℕ). length l) at.tail_is)

  -- the tail as one batch more is a sound log
  sound_flushed : IsReady core log inserts → core.active ≡ true → 0 < length log.tail → IsSoundLog pages (at.tail ∷ at.batches)
  sound_flushed ready active some =
      let open_now = at.at_history.busy active in
      let undo = undo_bytes-one (whole_history at.batches at.tail) at.at_history.in_order at.at_history.plain (core.next - 1) open_now.others in
      record {
        rules = (at.at_history.in_order, at.at_history.plain);
        below = at.at_history.below;
        room = omega (arith, undo, open_now.inserts_are, end_is, ready.room_after active some, ready.limit);
      }

  -- what a crash during such a flush may leave has the same rows
  pub holds_in_flush : IsReady core log inserts → core.active ≡ true → 0 < length log.tail → (c : Image) → HasEither at.batches at.tail c → ComesByFlush log.batch (written_tail log.tail) left c → Holds count rows c
  holds_in_flush ready active some c (inl old) comes =
      let from = master_stays c comes in
      holds_of pages count rows at.batches c (image_with_log pages at.batches at.batches from.0 c (at.images from.0 from.1) from.2 old) at.sound at.commits_stand at.rows_stand
  holds_in_flush ready active some c (inr new) comes =
      let from = master_stays c comes in
      holds_of pages count rows (at.tail ∷ at.batches) c (image_with_log pages at.batches (at.tail ∷ at.batches) from.0 c (at.images from.0 from.1) from.2 new)
      (sound_flushed ready active some) at.at_history.commits_are at.at_history.rows_are

  -- and after it the session stands where it stood
  pub at_flushed : IsReady core log inserts → core.active ≡ true → 0 < length log.tail → (leaves : Image → Type 0)
      → ((c : Image) → leaves c → HasLog (c Log) (at.tail ∷ at.batches)) → ((c : Image) → leaves c → ComesByFlush log.batch (written_tail log.tail) left c)
      → IsAt pages count rows core (record log { batch = end_of log; tail = [] }) under inserts leaves
  at_flushed ready active some leaves logs comes = record {
    batches = at.tail ∷ at.batches;
    tail = [];
    batch_is = sym end_is;
    tail_is = refl;
    records = tt;
    sound = sound_flushed ready active some;
    images = λ c now.
        let from = master_stays c (comes c now) in
        image_with_log pages at.batches (at.tail ∷ at.batches) from.0 c (at.images from.0 from.1) from.2 (logs c now);
    commits_stand = at.at_history.commits_are;
    rows_stand = at.at_history.rows_are;
    idle_tail = λ idle. refl;
    at_history = at.at_history;
  }

  -- a transaction is begun
  pub at_begun : core.active ≡ false → IsAt pages count rows (record core { next = core.next + 1; active = true }) log 0 0 left
  at_begun idle = record {
    batches = at.batches;
    tail = at.tail;
    batch_is = at.batch_is;
    tail_is = at.tail_is;
    records = at.records;
    sound = at.sound;
    images = at.images;
    commits_stand = at.commits_stand;
    rows_stand = at.rows_stand;
    idle_tail = λ active. absurd (true≢false active);
    at_history = begun pages count rows core under inserts (whole_history at.batches at.tail) at.at_history idle;
  }

  next_lsn : gate_of at.batches + BATCH_HEADER + length (spelling_all at.tail) ≡ end_of log
  next_lsn = omega (arith, at.batch_is, ap (λ (l : List ℕ). length l) at.tail_is)

  -- the LSNs so far are below it
  above : newest_lsn (whole_history at.batches at.tail) < end_of log
  above = omega (arith, newest_below (acts_of_batches at.batches) (gate_of at.batches + BATCH_HEADER) at.tail (newest_of_batches at.batches), next_lsn)

  -- the history with a record of this LSN
  grown : (lsn : ℕ) (next : LogRecord) → lsn ≡ end_of log → whole_history at.batches (at.tail ++ next ∷ []) ≡ act_at lsn next ∷ whole_history at.batches at.tail
  grown lsn next is =
      let same : gate_of at.batches + BATCH_HEADER + length (spelling_all at.tail) ≡ lsn = next_lsn ∙ sym is in
      acts_after-snoc (acts_of_batches at.batches) (gate_of at.batches + BATCH_HEADER) at.tail next
      ∙ ap (λ (n : ℕ). act_at n next ∷ whole_history at.batches at.tail) same

  -- a row is put, and its record is in the tail
  pub at_inserted : (lsn : Lsn) (txn : TxnId) (last : Lsn) (rid : Rid) (row : List ℕ) → core.active ≡ true → IsPlaceFor core.pages (length row) rid → txn.0 ≡ core.next - 1 → last.0 ≡ under → 1 ≤ core.next
      → lsn.0 ≡ end_of log → IsRecord (Insert txn last rid 0 row)
      → IsAt pages count rows (record core { pages = set_row core.pages rid row }) (record log { tail = log.tail ++ spelling (Insert txn last rid 0 row) }) lsn.0 (inserts + 1) left
  at_inserted lsn txn last rid row active place txn_is last_is some_id lsn_is is_record = record {
    batches = at.batches;
    tail = at.tail ++ Insert txn last rid 0 row ∷ [];
    batch_is = at.batch_is;
    tail_is = ap (λ (l : List ℕ). l ++ spelling (Insert txn last rid 0 row)) at.tail_is ∙ sym (spelling_all-snoc at.tail (Insert txn last rid 0 row));
    records = all-snoc at.tail (Insert txn last rid 0 row) at.records is_record;
    sound = at.sound;
    images = at.images;
    commits_stand = at.commits_stand;
    rows_stand = at.rows_stand;
    idle_tail = λ idle. absurd (true≢false (sym active ∙ idle));
    at_history = subst (IsAtHistory pages count rows (record core { pages = set_row core.pages rid row }) lsn.0 (inserts + 1)) (sym (grown lsn.0 (Insert txn last rid 0 row) lsn_is))
        (inserted pages count rows core under inserts (whole_history at.batches at.tail) at.at_history lsn.0 txn last rid row active place txn_is last_is some_id (omega (arith, above, lsn_is)));
  }

  -- the transaction's commit record is put after the tail
  module _ (txn : TxnId) (active : core.active ≡ true) (txn_is : txn.0 ≡ core.next - 1) (some_id : 1 ≤ core.next) (ready : IsReady core log inserts) (is_record : IsRecord (Commit txn)) where
    abbrev closing : Batch
    closing = at.tail ++ Commit txn ∷ []

    abbrev log_closing : LogValue
    log_closing = record log { tail = log.tail ++ spelling (Commit txn) }

    tail_closing : log.tail ++ spelling (Commit txn) ≡ spelling_all closing
    tail_closing = ap (λ (l : List ℕ). l ++ spelling (Commit txn)) at.tail_is ∙ sym (spelling_all-snoc at.tail (Commit txn))

    -- the images have the log whose batches stand
    pub tails_closing : Tails log.batch (log.tail ++ spelling (Commit txn)) left at.batches (at.tail ++ Commit txn ∷ [])
    tails_closing = record {
      gate_is = at.batch_is;
      spelled = tail_closing;
      records = all-snoc at.tail (Commit txn) at.records is_record;
      logs = λ c now. (at.images c now).log;
    }

    end_closing : gate_of (closing ∷ at.batches) ≡ end_of log_closing
    end_closing = omega (arith, at.batch_is, ap (λ (l : List ℕ). length l) tail_closing)

    after : IsAtHistory pages (count + 1) (rows_of core.pages) (record core { active = false }) under inserts (whole_history at.batches closing)
    after =
        subst (IsAtHistory pages (count + 1) (rows_of core.pages) (record core { active = false }) under inserts) (sym (grown (end_of log) (Commit txn) refl))
        (committed pages count rows core under inserts (whole_history at.batches at.tail) at.at_history (end_of log) txn active txn_is some_id above)

    sound_closing : IsSoundLog pages (closing ∷ at.batches)
    sound_closing =
        let none = undo_bytes-none (whole_history at.batches closing) after.in_order after.plain (after.idle refl).none in
        let size : length (log.tail ++ spelling (Commit txn)) ≡ length log.tail + 5 = length-append log.tail (spelling (Commit txn)) in
        record {
          rules = (after.in_order, after.plain);
          below = after.below;
          room = omega (arith, none, end_closing, size, ready.room active, ready.limit);
        }

    -- what a crash during the commit may leave has the rows from before it, or the transaction's too
    pub holds_in_commit : (c : Image) → HasEither at.batches (at.tail ++ Commit txn ∷ []) c → ComesByFlush log.batch (written_tail (log.tail ++ spelling (Commit txn))) left c
        → Holds count rows c ⊎ Holds (count + 1) (rows_of core.pages) c
    holds_in_commit c (inl old) comes =
        let same : c Master ≡ comes.0 Master = comes.2.others.each Master (λ equal. cc) in
        inl (holds_of pages count rows at.batches c (image_with_log pages at.batches at.batches comes.0 c (at.images comes.0 comes.1) same old) at.sound at.commits_stand at.rows_stand)
    holds_in_commit c (inr new) comes =
        let same : c Master ≡ comes.0 Master = comes.2.others.each Master (λ equal. cc) in
        inr (holds_of pages (count + 1) (rows_of core.pages) (closing ∷ at.batches) c (image_with_log pages at.batches (closing ∷ at.batches) comes.0 c (at.images comes.0 comes.1) same new)
        sound_closing after.commits_are after.rows_are)

    -- and once it is durable the session stands after it
    pub at_committed : (leaves : Image → Type 0) → ((c : Image) → leaves c → HasLog (c Log) ((at.tail ++ Commit txn ∷ []) ∷ at.batches))
        → ((c : Image) → leaves c → ComesByFlush log.batch (written_tail (log.tail ++ spelling (Commit txn))) left c)
        → IsAt pages (count + 1) (rows_of core.pages) (record core { active = false })
        (record log { batch = end_of (record log { tail = log.tail ++ spelling (Commit txn) }); tail = [] }) under inserts leaves
    at_committed leaves logs comes = record {
      batches = closing ∷ at.batches;
      tail = [];
      batch_is = sym end_closing;
      tail_is = refl;
      records = tt;
      sound = sound_closing;
      images = λ c now.
          let by = comes c now in
          let same : c Master ≡ by.0 Master = by.2.others.each Master (λ equal. cc) in
          image_with_log pages at.batches (closing ∷ at.batches) by.0 c (at.images by.0 by.1) same (logs c now);
      commits_stand = after.commits_are;
      rows_stand = after.rows_are;
      idle_tail = λ idle. refl;
      at_history = after;
    }
