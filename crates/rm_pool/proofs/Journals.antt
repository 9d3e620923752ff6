-- How a journal stands to its volume after each of its calls, where its log ends, and where the records of its history stand.
use Rattle.std.proofs.Common.{◌≡◌, ◌⊎◌, inl, inr, ⊎_elim, ℕ, ◌+◌, ◌-◌, ◌<◌, ◌≤◌, Bool, true, false, IsTrue, Result, Ok, Err, IfOk, List, [], ◌∷◌, ◌++◌}
use Rattle.std.proofs.Common.{length, take, drop, refl, ap, sym, subst, ◌∙◌, arith, append_assoc, length-append}
use Rattle.std.specs.Int.{to_be_bytes, w32}
use Rattle.std.specs.List.{AllByRecursion}
use Rattle.std.proofs.lemmas.Bool.{cases_lt}
use Rattle.std.proofs.lemmas.Grind.{flat_map-append}
use Rattle.std.proofs.lemmas.List.{append-nil, length-take, take-append-drop}
use Rattle.std.proofs.lemmas.List.Prefix.{front_rest}
use Rattle.rm_types.specs.declared.areas.Area.TheVariants.{Log}
use Rattle.rm_types.specs.declared.faults.StoreFault.{StoreFault}
use Rattle.rm_outside.specs.Images.{Bytes, Image, KeepsOthers, Shows}
use Rattle.rm_outside.specs.Moments.{ComesBy, IsDurable, LeavesOnly, started, joined, weaker}
use Rattle.rm_outside.specs.Calls.{AllLeft, Facts, Reading}
use Rattle.rm_outside.proofs.CallLemmas.{counts_none, counts_as, counts_then}
use Rattle.rm_outside.proofs.ShowsLemmas.{shows_back, shows_front, shows_once}
use Rattle.rm_record.specs.declared.records.LogRecord.{LogRecord}
use Rattle.rm_record.specs.declared.records.Logged.{Logged}
use Rattle.rm_record.specs.Records.{spelling, spelling_all, IsRecord}
use Rattle.rm_record.proofs.Decoding.{spellings_are_apart}
use Rattle.rm_history.specs.declared.TheConstants.{BATCH_HEADER}
use Rattle.rm_history.specs.Logs.{Batch, gate_of, IsInRange, AreBatches, HasLog, Stands}
use Rattle.rm_history.specs.Acts.{Act, History, act_at, acts_of, lsn_of}
use Rattle.rm_history.specs.Batched.{acts_after, acts_of_batches}
use Rattle.rm_history.specs.Sizes as sizes
use Rattle.rm_history.proofs.Appending.{acts_after-snoc, lsn_of-act_at}
use Rattle.rm_history.proofs.Readings.{records_once, spelling_long}
use Rattle.rm_history.proofs.RecordsOfActs.{record_of-act_at}
use Rattle.rm_wal.specs.Attaching.{Attaches}
use Rattle.rm_wal.specs.Flushing.{Done, FlushStep, Flushing, HasEither, written_tail}
use Rattle.rm_wal.specs.Lookups.{HasNoneAt, StandsInTail, HasNoneInTail}
use Rattle.rm_wal.specs.Tails.{LogValue, end_of}
use Rattle.rm_pool.specs.Journals.{JournalValue, IsBetween, Since, Known, Begins, Standing, flushed, gate_after, IsIn, IsRecordAt, HasNoRecordAt}

-- ---- images

keeps_all : (c : Image) → KeepsOthers Log c c
keeps_all c = record { each = λ other apart. refl }

keeps_then : (c d e : Image) → KeepsOthers Log c d → KeepsOthers Log d e → KeepsOthers Log c e
keeps_then c d e one other = record { each = λ area apart. other.each area apart ∙ one.each area apart }

-- what has P and Q
both_left : {before now : ℕ} {past since : ℕ → Image → Type 0} {P Q : Image → Type 0} → LeavesOnly before now past since P
    → LeavesOnly before now past since Q → LeavesOnly before now past since (λ c. P c × Q c)
both_left one other = record {
  later = one.later;
  each = λ c left. (one.each c left, other.each c left);
  earlier = λ t c le left. ⊎_elim (λ past. inl past) (λ p. ⊎_elim (λ past. inl past) (λ q. inr (p, q)) (other.earlier t c le left)) (one.earlier t c le left);
}

-- ---- the opening

pub stands_at_opening : {f : Facts} (log : LogValue) (records : List Logged) → ((c : Image) → f.left_since f.moment c → f.may_leave c)
    → ((c : Image) → f.may_leave c → f.models_content) → IsDurable Log f.content f.may_leave
    → Attaches f.models_content (f.content Log) log.limit log records → Standing f f log (acts_of records) (acts_of records) (acts_of records) true
stands_at_opening {f} log records only_now only_modelled synced attached =
    let has : (c : Image) → f.may_leave c → HasLog (c Log) attached.batches =
    λ c now. subst (λ (area : Bytes). HasLog area attached.batches) (sym (synced.each c now)) (attached.has_log (only_modelled c now)) in
    let between : (c : Image) → f.may_leave c → IsBetween (acts_of records) (acts_of records) c = λ c now. record {
      front = record { batches = attached.batches; has = has c now; newer = []; is = sym attached.history_is };
      more = [];
      kept = attached.history_is;
    } in
    record {
      since = record {
        modelled = λ models. models;
        content = keeps_all f.content;
        crash = record { each = λ c now. (c, now, keeps_all c) };
        time = started _ _ _ (λ c left. record { others = (c, only_now c left, keeps_all c); between = between c (only_now c left) });
        counts = counts_none;
      };
      grown = ([], refl);
      left = between;
      known = λ sure. record {
        batches = attached.batches;
        tail = [];
        are_batches = attached.are_batches;
        tails = record { gate_is = ap (λ (l : LogValue). l.batch) attached.log_is; spelled = ap (λ (l : LogValue). l.tail) attached.log_is; records = tt; logs = has };
        durable_is = attached.history_is;
        history_is = refl;
        synced = synced;
      };
    }

-- ---- a record more

spelling_all-snoc : (batch : Batch) (next : LogRecord) → spelling_all (batch ++ next ∷ []) ≡ spelling_all batch ++ spelling next
spelling_all-snoc batch next = flat_map-append spelling batch (next ∷ []) ∙ ap (λ (l : List ℕ). spelling_all batch ++ l) (append-nil (spelling next))

are_records-snoc : (batch : Batch) (next : LogRecord) → AllByRecursion IsRecord batch → IsRecord next → AllByRecursion IsRecord (batch ++ next ∷ [])
are_records-snoc [] next are is = (is, tt)
are_records-snoc (first ∷ batch) next are is = (are.0, are_records-snoc batch next are.1 is)

known_appended : {now : Facts} {log : LogValue} {history durable : History} (next : LogRecord) (lsn : ℕ) → IsRecord next → lsn ≡ end_of log
    → Known now log history durable → Known now (record log { tail = log.tail ++ spelling next }) (act_at lsn next ∷ history) durable
known_appended {now} {log} {history} {durable} next lsn is lsn_is known =
    let tails = known.tails in
    let place : log.batch + BATCH_HEADER + length (spelling_all known.tail) ≡ lsn = omega (arith, lsn_is, ap length tails.spelled) in
    record {
      batches = known.batches;
      tail = known.tail ++ next ∷ [];
      are_batches = known.are_batches;
      tails = record {
        gate_is = tails.gate_is;
        spelled = ap (λ (l : List ℕ). l ++ spelling next) tails.spelled ∙ sym (spelling_all-snoc known.tail next);
        records = are_records-snoc known.tail next tails.records is;
        logs = tails.logs;
      };
      durable_is = known.durable_is;
      history_is = acts_after-snoc durable (log.batch + BATCH_HEADER) known.tail next ∙ (λ i. act_at (place i) next ∷ known.history_is i);
      synced = known.synced;
    }

-- an image between two histories is so after one more record
with_newest : {durable history : History} {c : Image} (act : Act) → IsBetween durable history c → IsBetween durable (act ∷ history) c
with_newest act between = record {
  front = record {
    batches = between.front.batches;
    has = between.front.has;
    newer = act ∷ between.front.newer;
    is = ap (λ (h : History). act ∷ h) between.front.is;
  };
  more = between.more;
  kept = between.kept;
}

pub stands_appended : {opened now : Facts} {log : LogValue} {first history durable : History} {is_known : Bool} (next : LogRecord) (lsn : ℕ) → IsRecord next
    → lsn ≡ end_of log → Standing opened now log first history durable is_known
    → Standing opened now (record log { tail = log.tail ++ spelling next }) first (act_at lsn next ∷ history) durable is_known
stands_appended next lsn is lsn_is stands =
    let since = stands.since in
    record {
      since = record {
        modelled = since.modelled;
        content = since.content;
        crash = since.crash;
        time = weaker since.time (λ c left. record { others = left.others; between = with_newest (act_at lsn next) left.between });
        counts = since.counts;
      };
      grown = stands.grown;
      left = λ c now. with_newest (act_at lsn next) (stands.left c now);
      known = λ sure. known_appended next lsn is lsn_is (stands.known sure);
    }

-- ---- what is known

-- it is known of the fields of a journal
pub known_of : {opened now : Facts} {log : LogValue} {first history durable : History} {V : Type 0} {it value : JournalValue V} → Standing opened now log first history durable it.is_known
    → it ≡ value → IsTrue value.is_known → Known now log history durable
known_of stands is sure = stands.known (ap (λ (journal : JournalValue _). journal.is_known) is ∙ sure)

newer_of : (history : History) (at : ℕ) (tail : Batch) → (newer : History) × (acts_after history at tail ≡ newer ++ history)
newer_of history at [] = ([], refl)
newer_of history at (next ∷ tail) =
    let rest = newer_of (act_at at next ∷ history) (at + length (spelling next)) tail in
    (rest.0 ++ act_at at next ∷ [], rest.1 ∙ sym (append_assoc rest.0 (act_at at next ∷ []) history))

module _ {now : Facts} {log : LogValue} {history durable : History} (known : Known now log history durable) where
  -- the log with the tail as its newest batch has the whole history,
  whole_is : acts_of_batches (known.tail ∷ known.batches) ≡ history
  whole_is = (λ i. acts_after (known.durable_is i) (sym known.tails.gate_is i + BATCH_HEADER) known.tail) ∙ known.history_is

  -- what is durable and what is newer
  newer : (newer : History) × (history ≡ newer ++ durable)
  newer = let parts = newer_of durable (log.batch + BATCH_HEADER) known.tail in (parts.0, sym known.history_is ∙ parts.1)

  -- and without it what is durable
  between_old : (c : Image) → HasLog (c Log) known.batches → IsBetween durable history c
  between_old c has = record {
    front = record { batches = known.batches; has = has; newer = newer.0; is = newer.1 ∙ ap (λ (h : History). newer.0 ++ h) (sym known.durable_is) };
    more = [];
    kept = known.durable_is;
  }

  pub between_now : (c : Image) → now.may_leave c → IsBetween durable history c
  between_now c left = between_old c (known.tails.logs c left)

  between_either : (c : Image) → HasEither known.batches known.tail c → IsBetween durable history c
  between_either c (inl old) = between_old c old
  between_either c (inr new) = record {
    front = record { batches = known.tail ∷ known.batches; has = new; newer = []; is = sym whole_is };
    more = newer.0;
    kept = whole_is ∙ newer.1;
  }

  pub flush_between : {new : Facts} → Flushing log now new → AllLeft now new (IsBetween durable history)
  flush_between flush = weaker (flush.logs known.batches known.tail known.tails) between_either

  pub read_between : {new : Facts} → Reading false true now new → AllLeft now new (IsBetween durable history)
  read_between reads = weaker reads.time between_now

-- ---- what was there at the opening

-- what began with what is durable began with that
pub from_first : {first durable history : History} {c : Image} → Begins first durable → IsBetween durable history c → IsBetween first history c
from_first {first} grown between = record {
  front = between.front;
  more = between.more ++ grown.0;
  kept = between.kept ∙ ap (λ (h : History). between.more ++ h) grown.1 ∙ sym (append_assoc between.more grown.0 first);
}

-- ---- flushes

-- the log after one that was done
pub log_flushed : (batch limit : ℕ) (tail : List ℕ) (new : LogValue) → (tail ≡ [] → new ≡ record { batch = batch; tail = tail; limit = limit })
    → (0 < length tail → new ≡ record { batch = batch + (BATCH_HEADER + length tail); tail = []; limit = limit })
    → new ≡ record { batch = gate_after batch tail; tail = []; limit = limit }
log_flushed batch limit [] new empty some = empty refl
log_flushed batch limit (byte ∷ rest) new empty some = some (omega arith)

gate_some : (gate : ℕ) (tail : List ℕ) → 0 < length tail → gate_after gate tail ≡ gate + (BATCH_HEADER + length tail)
gate_some gate [] some = absurd (omega (arith, some))
gate_some gate (byte ∷ rest) some = refl

-- with an empty tail all is durable already
pub all_durable : {now : Facts} {log : LogValue} {history durable : History} → Known now log history durable → log.tail ≡ [] → durable ≡ history
all_durable {log = log} {durable = durable} known is =
    let none : known.tail ≡ [] = records_once known.tail [] known.tails.records tt (sym known.tails.spelled ∙ is) in
    sym (ap (acts_after durable (log.batch + BATCH_HEADER)) none) ∙ known.history_is

module _ {opened old new : Facts} {log : LogValue} {first history durable : History} (known : Known old log history durable)
    (since : Since opened old first history) (grown : Begins first durable) (flush : Flushing log old new) where
  comes : (c : Image) → ComesBy (FlushStep log.batch (written_tail log.tail)) old.may_leave c → ComesBy (KeepsOthers Log) opened.may_leave c
  comes c (d, left, step) = let before = since.crash.each d left in (before.0, before.1, keeps_then _ _ _ before.2 step.others)

  since_flushed : Since opened new first history
  since_flushed = record {
    modelled = λ models. since.modelled (flush.writes.modelled models);
    content = keeps_then _ _ _ since.content flush.writes.content;
    crash = record { each = λ c now. comes c (flush.writes.crash.each c now) };
    time = joined since.time (weaker (both_left flush.writes.time (flush_between known flush)) (λ c left. record { others = comes c left.0; between = from_first grown left.1 }));
    counts = counts_then since.counts (counts_as flush.writes.counts);
  }

  -- it failed
  pub stands_lost : {lost : LogValue} → ((c : Image) → new.may_leave c → new.left_since old.moment c) → Standing opened new lost first history durable false
  stands_lost counts_now =
      record { since = since_flushed; grown = grown; left = λ c now. (flush_between known flush).each c (counts_now c now); known = λ sure. cc }

  -- it was done
  module _ (done : Done log old new) (range : 0 < length log.tail → IsInRange log.batch (length log.tail)) (same : log.tail ≡ [] → Known new log history durable) where
    known_flushed : (tail : List ℕ) → log.tail ≡ tail → Known new (flushed log) history history
    known_flushed [] is =
        let stays = same is in
        record {
          batches = stays.batches;
          tail = [];
          are_batches = stays.are_batches;
          tails = record { gate_is = ap (gate_after log.batch) is ∙ stays.tails.gate_is; spelled = refl; records = tt; logs = stays.tails.logs };
          durable_is = stays.durable_is ∙ all_durable stays is;
          history_is = refl;
          synced = stays.synced;
        }
    known_flushed (byte ∷ rest) is =
        let some : 0 < length log.tail = subst (λ (l : List ℕ). 0 < length l) (sym is) (omega arith) in
        let tails = known.tails in
        let spelled : IsInRange log.batch (length (spelling_all known.tail)) = subst (λ (l : List ℕ). IsInRange log.batch (length l)) tails.spelled (range some) in
        let in_range = subst (λ (n : ℕ). IsInRange n (length (spelling_all known.tail))) tails.gate_is spelled in
        record {
          batches = known.tail ∷ known.batches;
          tail = [];
          are_batches = (known.are_batches, record { records = tails.records; range = in_range });
          tails = record {
            gate_is = gate_some log.batch log.tail some ∙ omega (arith, tails.gate_is, ap length tails.spelled);
            spelled = refl;
            records = tt;
            logs = done.logs known.batches known.tail tails some;
          };
          durable_is = whole_is known;
          history_is = refl;
          synced = done.synced;
        }

    pub stands_flushed : {is_known : Bool} → Standing opened new (flushed log) first history history is_known
    stands_flushed =
        let more = newer known in
        record {
          since = since_flushed;
          grown = (
            more.0 ++ grown.0,
            more.1 ∙ ap (λ (h : History). more.0 ++ h) grown.1 ∙ sym (append_assoc more.0 grown.0 first),
          );
          left = between_now (known_flushed log.tail refl);
          known = λ sure. known_flushed log.tail refl;
        }

-- ---- reads

pub stands_read : {opened old new : Facts} {log : LogValue} {first history durable : History} {is_known : Bool} → Known old log history durable
    → Reading false true old new → Standing opened old log first history durable is_known → Standing opened new log first history durable is_known
stands_read {opened} known reads stands =
    let since = stands.since in
    record {
      since = record {
        modelled = λ models. since.modelled (reads.modelled models);
        content = subst (KeepsOthers Log opened.content) (sym reads.content) since.content;
        crash = record { each = λ c now. since.crash.each c (reads.crash.each c now) };
        time = joined since.time (weaker reads.time (λ c now. record { others = since.crash.each c now; between = from_first stands.grown (between_now known c now) }));
        counts = counts_then since.counts reads.counts;
      };
      grown = stands.grown;
      left = λ c now. stands.left c (reads.crash.each c now);
      known = λ sure. record {
        batches = known.batches;
        tail = known.tail;
        are_batches = known.are_batches;
        tails = record {
          gate_is = known.tails.gate_is;
          spelled = known.tails.spelled;
          records = known.tails.records;
          logs = λ c now. known.tails.logs c (reads.crash.each c now);
        };
        durable_is = known.durable_is;
        history_is = known.history_is;
        synced = record { each = λ c now. known.synced.each c (reads.crash.each c now) ∙ ap (λ (image : Image). image Log) (sym reads.content) };
      };
    }

-- ---- the end of the log

-- a history ends where its newest record does,
pub newest_end : (at : ℕ) (what : LogRecord) → lsn_of (act_at at what) + sizes.size_of (act_at at what) ≡ at + length (spelling what)
unfolding sizes.size_of
newest_end at what = λ i. lsn_of-act_at at what i + length (spelling (record_of-act_at at what i))

-- after some records,
records_end : (history : History) (at : ℕ) (next : LogRecord) (records : Batch) → sizes.end_of (acts_after history at (next ∷ records)) ≡ at + length (spelling_all (next ∷ records))
records_end history at next [] = newest_end at next ∙ omega (arith, length-append (spelling next) [])
records_end history at next (other ∷ records) =
    records_end (act_at at next ∷ history) (at + length (spelling next)) other records
    ∙ omega (arith, length-append (spelling next) (spelling_all (other ∷ records)))

-- and after some batches at the gate
pub batches_end : (batches : List Batch) → AreBatches batches → sizes.end_of (acts_of_batches batches) ≡ gate_of batches
batches_end [] are = refl
batches_end ([] ∷ batches) are = absurd (omega (arith, are.1.range.some))
batches_end ((next ∷ records) ∷ batches) are =
    records_end (acts_of_batches batches) (gate_of batches + BATCH_HEADER) next records ∙ omega arith

next_at_end : (history : History) (lsn : ℕ) → 0 < lsn → sizes.end_of history ≡ lsn → sizes.IsNext history lsn
next_at_end [] lsn some is = absurd (omega (arith, some, is))
next_at_end (newest ∷ before) lsn some is = inl (sym is)

pub next_at_gate : (history : History) (lsn : ℕ) → sizes.end_of history + BATCH_HEADER ≡ lsn → sizes.IsNext history lsn
next_at_gate [] lsn is = sym is ∙ omega arith
next_at_gate (newest ∷ before) lsn is = inr (sym is)

pub next_is_end : {now : Facts} {log : LogValue} {history durable : History} → Known now log history durable → sizes.IsNext history (end_of log)
next_is_end {log = it} {history = history} {durable = durable} known = go known.tail known.tails.spelled known.history_is
  where
    go : (tail : Batch) → it.tail ≡ spelling_all tail → acts_after durable (it.batch + BATCH_HEADER) tail ≡ history → sizes.IsNext history (end_of it)
    go [] spelled is =
        let gate : sizes.end_of history ≡ it.batch = ap sizes.end_of (sym (known.durable_is ∙ is)) ∙ batches_end known.batches known.are_batches ∙ sym known.tails.gate_is in
        next_at_gate history (end_of it) (omega (arith, gate, ap length spelled))
    go (next ∷ records) spelled is =
        let end : sizes.end_of history ≡ it.batch + BATCH_HEADER + length (spelling_all (next ∷ records)) = ap sizes.end_of (sym is) ∙ records_end durable (it.batch + BATCH_HEADER) next records in
        next_at_end history (end_of it) (omega arith) (end ∙ omega (arith, ap length spelled))

-- ---- where the records of a history stand

-- a record that does this stands somewhere
record IsOf (act : Act) (Stands : LogRecord → Type 0) : Type 0 where
  what : LogRecord
  is_record : IsRecord what
  is : act ≡ act_at (lsn_of act) what
  stands : Stands what

of_weaker : {act : Act} {P Q : LogRecord → Type 0} → ((what : LogRecord) → P what → Q what) → IsOf act P → IsOf act Q
of_weaker holds it = record { what = it.what; is_record = it.is_record; is = it.is; stands = holds it.what it.stands }

-- among these bytes, which stand from an offset on
record IsAmong (at : ℕ) (bytes : List ℕ) (lsn : ℕ) (what : LogRecord) : Type 0 where
  front : List ℕ
  rest : List ℕ
  cut : bytes ≡ front ++ (spelling what ++ rest)
  place : at + length front ≡ lsn

among_more : (at : ℕ) (first : LogRecord) (bytes : List ℕ) (lsn : ℕ) (what : LogRecord) → IsAmong (at + length (spelling first)) bytes lsn what
    → IsAmong at (spelling first ++ bytes) lsn what
among_more at first bytes lsn what among = record {
  front = spelling first ++ among.front;
  rest = among.rest;
  cut = ap (λ (l : List ℕ). spelling first ++ l) among.cut ∙ sym (append_assoc (spelling first) among.front (spelling what ++ among.rest));
  place = omega (arith, among.place, length-append (spelling first) among.front);
}

among_below : {at lsn : ℕ} {bytes : List ℕ} {what : LogRecord} → IsAmong at bytes lsn what → lsn < at + length bytes
among_below {what = what} among =
    omega (arith, among.place, ap length among.cut, spelling_long what, length-append among.front (spelling what ++ among.rest), length-append (spelling what) among.rest)

-- the acts after some records are those before, and those of the records
among_records : (history : History) (at : ℕ) (records : Batch) → AllByRecursion IsRecord records → (act : Act) → IsIn act (acts_after history at records)
    → IsIn act history ⊎ IsOf act (IsAmong at (spelling_all records) (lsn_of act))
among_records history at [] are act is = inl is
among_records history at (next ∷ records) are act is = elim (among_records (act_at at next ∷ history) (at + length (spelling next)) records are.1 act is) [
  | inl found ↦ elim found [
    | inl here ↦
        let lsn : lsn_of act ≡ at = ap lsn_of here ∙ lsn_of-act_at at next in
        inr (record {
          what = next;
          is_record = are.0;
          is = here ∙ ap (λ (n : ℕ). act_at n next) (sym lsn);
          stands = record { front = []; rest = spelling_all records; cut = refl; place = omega (arith, lsn) };
        })
    | inr before ↦ inl before
  ]
  | inr among ↦ inr (of_weaker (among_more at next (spelling_all records) (lsn_of act)) among)
]

module _ {area : Bytes} where
  -- the acts of batches that stand are those of records that stand
  in_area : (batches : List Batch) → Stands area batches → (act : Act) → IsIn act (acts_of_batches batches)
      → IsOf act (λ what. (lsn_of act < gate_of batches) × Shows area (lsn_of act) (spelling what))
  in_area [] stands act is = absurd is
  in_area (batch ∷ batches) stands act is = elim (among_records (acts_of_batches batches) (gate_of batches + BATCH_HEADER) batch stands.1.records act is) [
    | inl before ↦ of_weaker (λ what found. (omega (arith, found.0), found.1)) (in_area batches stands.0 act before)
    | inr among ↦
        let bytes = spelling_all batch in
        let all : Shows area (gate_of batches + 1 + 4) bytes = shows_back (to_be_bytes w32 (length bytes)) bytes stands.3 in
        of_weaker (λ what found.
        let place : gate_of batches + 1 + 4 + length found.front ≡ lsn_of act = omega (arith, found.place) in
        let here = shows_back found.front (spelling what ++ found.rest) (subst (Shows area (gate_of batches + 1 + 4)) found.cut all) in
        (omega (arith, among_below found), subst (λ (n : ℕ). Shows area n (spelling what)) place (shows_front (spelling what) found.rest here))) among
  ]

  -- one record stands at each place of the area
  begins_with : {at : ℕ} (a b : LogRecord) → IsRecord a → IsRecord b → Shows area at (spelling a) → Shows area at (spelling b)
      → length (spelling a) ≤ length (spelling b) → a ≡ b
  begins_with {at} a b is other one_shown other_shown short =
      let n = length (spelling a) in
      let cut : take n (spelling b) ++ drop n (spelling b) ≡ spelling b = take-append-drop n (spelling b) in
      let front = shows_front (take n (spelling b)) (drop n (spelling b)) (subst (Shows area at) (sym cut) other_shown) in
      let same : spelling a ≡ take n (spelling b) = shows_once (spelling a) (take n (spelling b)) one_shown front (omega (arith, length-take n (spelling b))) in
      (spellings_are_apart a b (drop n (spelling b)) [] is other (ap (λ (l : List ℕ). l ++ drop n (spelling b)) same ∙ cut ∙ sym (append-nil (spelling b)))).0

  record_once : {at : ℕ} (a b : LogRecord) → IsRecord a → IsRecord b → Shows area at (spelling a) → Shows area at (spelling b) → a ≡ b
  record_once a b is other shown other_shown = elim (cases_lt (length (spelling a)) (length (spelling b))) [
    | inl shorter ↦ begins_with a b is other shown other_shown (omega arith)
    | inr longer ↦ sym (begins_with b a other is other_shown shown (omega arith))
  ]

-- and of the tail
tail_once : {log : LogValue} {at : ℕ} {a b : LogRecord} → IsRecord a → IsRecord b → StandsInTail log at a → StandsInTail log at b → a ≡ b
tail_once {a = a} {b = b} is other one_stands other_stands = (spellings_are_apart a b one_stands.rest other_stands.rest is other (sym one_stands.cut ∙ other_stands.cut)).0

-- the record of an act stands at its LSN in the area or in the tail
abbrev StandsIn : Bytes → LogValue → ℕ → LogRecord → Type 0
StandsIn area log lsn what = ((lsn < log.batch) × Shows area lsn (spelling what)) ⊎ ((lsn < end_of log) × StandsInTail log lsn what)

in_tail : (log : LogValue) {lsn : ℕ} (what : LogRecord) → IsAmong (log.batch + BATCH_HEADER) log.tail lsn what → (lsn < end_of log) × StandsInTail log lsn what
in_tail log {lsn} what found =
    let skipped : lsn - (log.batch + BATCH_HEADER) ≡ length found.front = omega (arith, found.place) in (
      omega (arith, among_below found),
      record {
        after = omega (arith, found.place);
        rest = found.rest;
        cut = ap (λ (n : ℕ). drop n log.tail) skipped ∙ front_rest log.tail found.front (spelling what ++ found.rest) found.cut;
      },
    )

module _ {now : Facts} {log : LogValue} {history durable : History} (known : Known now log history durable) where
  located : now.may_leave now.content → (act : Act) → IsIn act history → IsOf act (StandsIn (now.content Log) log (lsn_of act))
  located left act is =
      let tails = known.tails in
      elim (among_records durable (log.batch + BATCH_HEADER) known.tail tails.records act (subst (IsIn act) (sym known.history_is) is)) [
        | inl before ↦
            of_weaker (λ what found. inl (omega (arith, found.0, tails.gate_is), found.1))
            (in_area known.batches (tails.logs now.content left).stands act (subst (IsIn act) (sym known.durable_is) before))
        | inr among ↦ of_weaker (λ what found. inr (in_tail log what (subst (λ (l : List ℕ). IsAmong (log.batch + BATCH_HEADER) l (lsn_of act) what) (sym tails.spelled) found))) among
      ]

  -- what was read there is the record of the act, if the volume models its content
  pub at_found : {models : Type 0} → (models → now.may_leave now.content) → (lsn : ℕ) (outcome : Result LogRecord StoreFault) → IfOk outcome IsRecord
      → IfOk outcome (λ found. lsn < log.batch → models → Shows (now.content Log) lsn (spelling found)) → IfOk outcome (λ found. log.batch ≤ lsn → StandsInTail log lsn found)
      → IfOk outcome (λ found. models → IsRecordAt history lsn found)
  at_found left lsn (Ok found) is shown stands = λ models act among here.
      let it = located (left models) act among in
      let same : found ≡ it.what = elim it.stands [
        | inl area ↦ record_once found it.what is it.is_record (subst (λ (n : ℕ). Shows (now.content Log) n (spelling found)) (sym here) (shown (omega (arith, here, area.0)) models)) area.1
        | inr tail ↦ tail_once is it.is_record (subst (λ (n : ℕ). StandsInTail log n found) (sym here) (stands (omega (arith, here, tail.1.after)))) tail.1
      ] in
      (λ i. act_at (sym here i) (same i)) ∙ sym it.is
  at_found left lsn (Err fault) is shown stands = tt

  -- where none stands there is no act
  pub none_found : now.may_leave now.content → (lsn : ℕ) → (lsn < log.batch → HasNoneAt (now.content Log) lsn) → (log.batch ≤ lsn → HasNoneInTail log lsn)
      → HasNoRecordAt history lsn
  none_found left lsn area_none tail_none act among here =
      let it = located left act among in
      let stands : StandsIn (now.content Log) log lsn it.what = subst (λ (n : ℕ). StandsIn (now.content Log) log n it.what) here it.stands in
      elim stands [
        | inl area ↦ (area_none area.0).each it.what it.is_record area.1
        | inr tail ↦ (tail_none (omega (arith, tail.1.after))).each it.what it.is_record tail.1
      ]

  -- nor past the end
  pub none_past : now.may_leave now.content → (lsn : ℕ) → end_of log ≤ lsn → HasNoRecordAt history lsn
  none_past left lsn past act among here = elim (located left act among).stands [ inl area ↦ omega (arith, past, here, area.0) | inr tail ↦ omega (arith, past, here, tail.0) ]
