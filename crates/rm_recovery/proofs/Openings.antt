-- What is opened, and why not, by what the log and the master said.
use Rattle.std.proofs.Common.{◌≡◌, inl, inr, ℕ, ◌+◌, true, List, [], length, refl, sym, ap, subst, ◌∙◌}
use Rattle.rm_types.specs.declared.areas.Area.{Area}
use Rattle.rm_types.specs.declared.areas.Area.TheVariants.{Master, Log}
use Rattle.rm_types.specs.declared.faults.Fault.TheVariants as fault
use Rattle.rm_types.specs.declared.faults.StoreFault.{StoreFault}
use Rattle.rm_types.specs.declared.faults.StoreFault.TheVariants as store
use Rattle.rm_types.specs.declared.formats.Format.TheVariants.{One}
use Rattle.rm_outside.specs.Calls.{Facts, IsStoreFaultIn}
use Rattle.rm_outside.specs.Images.{Image}
use Rattle.rm_record.specs.declared.records.Logged.{Logged}
use Rattle.rm_master.specs.declared.fields.Fields.{Fields}
use Rattle.rm_master.specs.Slots.{HasFields}
use Rattle.rm_wal.specs.Tails.{LogValue}
use Rattle.rm_history.specs.Acts.{History, acts_of}
use Rattle.rm_history.specs.Batched.{acts_of_batches}
use Rattle.rm_history.specs.Counts.{repeat_count}
use Rattle.rm_history.specs.Logs.{IsDamagedAt as IsLogDamagedAt}
use Rattle.rm_history.specs.Losers.{losers_of}
use Rattle.rm_history.specs.Pending.{all_pending}
use Rattle.rm_history.specs.Transactions.{greatest_txn}
use Rattle.rm_history.proofs.AllPending.{pending_of-none}
use Rattle.rm_pool.specs.Journals.{JournalValue}
use Rattle.rm_pool.specs.Stores.{StoreValue}
use Rattle.rm_recovery.specs.declared.opening.Found.{Found}
use Rattle.rm_recovery.specs.Opening.{Finds, WasRead, IsDamage, Opens, StopsWith}
use Rattle.rm_recovery.specs.Outcomes.{Explains, of_store}
use Rattle.rm_recovery.specs.Redone.{HasNoMisfit}
use Rattle.rm_recovery.specs.Restarting.{BeginsRestart, IsRestarting, IsUndoDamageAt}
use Rattle.rm_recovery.specs.Undone.{GoesOn, IsStop, Stepped}
use Rattle.rm_recovery.proofs.Steps.{begins_restart, is_restarted, restarted_room, restarting_begun}

-- a fault of the log's attaching
pub explains_store : (old new : Facts) (fields : Fields) (e : StoreFault) → (new.models_content → HasFields (old.content Master) fields) → fields.checkpoint ≡ 0
    → ((area : Area) (at : ℕ) → e ≡ store.Fault (fault.Damaged area at) → (area ≡ Log) × (new.models_content → IsLogDamagedAt (old.content Log) at))
    → IsStoreFaultIn Log old.faults new.faults e → Explains old new (of_store e)
explains_store old new fields (store.Fault (fault.Damaged area at)) has none damaged cause =
    let found = damaged area at refl in
    λ models. record {
      made = λ unmade. unmade (has models).made;
      damage = subst (λ (a : Area). IsDamage old.content a at) (sym found.0)
          (inr (inl (record { fields = fields; read = has models; checkpoint = none; damage = found.1 models })));
    }
explains_store old new fields (store.Fault (fault.Volume area)) has none damaged cause = cause.1
explains_store old new fields store.NoMemory has none damaged cause = tt

-- ---- what was found, and then undone

-- what was read, where the volume models its content to a later moment
read_on : {modelled : Type 0} (later : Type 0) {content : Image} {limit : ℕ} {found : Found} → (later → modelled) → (finds : Finds modelled content limit found)
    → WasRead later content finds.fields finds.attached.batches
read_on later earlier finds = record {
  master = record { is_fields = finds.master.is_fields; has_fields = λ models. finds.master.has_fields (earlier models); checkpoint = finds.master.checkpoint };
  are_batches = finds.attached.are_batches;
  has_log = λ models. finds.attached.has_log (earlier models);
}

-- the store before anything is undone
abbrev pub begun_with : {V : Type 0} → V → Found → StoreValue V
begun_with volume found = record {
  journal = record {
    volume = volume;
    opened = volume;
    log = found.log;
    history = acts_of found.records.items;
    first = acts_of found.records.items;
    durable = acts_of found.records.items;
    is_known = true;
  };
  frames = found.redone.frames;
}

pub begun_is : {V : Type 0} (volume : V) (found : Found) (records : List Logged) (journal : JournalValue V) (at : StoreValue V) → records ≡ found.records.items
    → journal ≡ record { volume = volume; opened = volume; log = found.log; history = acts_of records; first = acts_of records; durable = acts_of records; is_known = true }
    → at ≡ record { journal = journal; frames = found.redone.frames } → at ≡ begun_with volume found
begun_is volume found records journal at same of is =
    let frames : JournalValue _ → StoreValue _ = λ j. record { journal = j; frames = found.redone.frames } in
    let with : List Logged → StoreValue _ = λ items.
    frames (record { volume = volume; opened = volume; log = found.log; history = acts_of items; first = acts_of items; durable = acts_of items; is_known = true }) in
    is ∙ ap frames of ∙ ap with same

module _ {V : Type 0} {modelled : Type 0} {content : Image} {limit : ℕ} {found : Found} (finds : Finds modelled content limit found) (volume : V) where
  abbrev read_history : History
  read_history = acts_of_batches finds.attached.batches

  -- the restart has come to what was read
  begun : IsRestarting One found.redone.frames.size read_history (acts_of found.records.items)
  begun = subst (λ (h : History). IsRestarting One found.redone.frames.size read_history h) finds.attached.history_is (restarting_begun One found.redone.frames.size read_history)

  fit : HasNoMisfit finds.fields.pages read_history
  fit = subst (HasNoMisfit finds.fields.pages) (sym finds.attached.history_is) finds.redone.fit

  module _ {before : Type 0} (later : Type 0) (earlier : before → modelled) (new : StoreValue V) (step : Stepped before later (begun_with volume found) new) where
    read_then : WasRead later content finds.fields finds.attached.batches
    read_then = read_on later (λ models. earlier (step.modelled models)) finds

    come : later → IsRestarting One found.redone.frames.size read_history new.journal.history
    come models = step.restarts models read_history begun

    first_is : new.journal.first ≡ read_history
    first_is = step.first ∙ sym finds.attached.history_is

    pub opens : (undone : ℕ) → GoesOn (begun_with volume found) new → new.journal.durable ≡ new.journal.history → new.journal.log.tail ≡ []
        → all_pending new.journal.history ≡ [] → losers_of new.journal.history ≡ []
        → greatest_txn new.journal.history ≡ greatest_txn (acts_of found.records.items) → undone ≡ length (all_pending (acts_of found.records.items))
        → Opens later content limit new (found.redone.losers.greatest + 1)
        (record { redo = 0; records = found.redone.count; applied = found.redone.count; undone = undone })
    opens undone goes durable flushed none ended greatest count =
        let history = finds.attached.history_is in
        let counted : found.redone.count ≡ repeat_count read_history = finds.redone.count ∙ ap repeat_count (sym history) in
        let undid : undone ≡ length (all_pending read_history) = count ∙ ap (λ (h : History). length (all_pending h)) (sym history) in
        record {
          fields = finds.fields;
          batches = finds.attached.batches;
          read = read_then;
          fit = fit;
          log = record {
            first_is = first_is;
            is_known = goes.known;
            limit_is = goes.limit ∙ ap (λ (l : LogValue). l.limit) finds.attached.log_is;
            flushed = flushed;
            durable_is = durable;
            settled = record {
              restarted = λ models. is_restarted (come models) none ended;
              room = λ models legal. restarted_room (come models) none ended legal;
              none = pending_of-none new.journal.history none;
              greatest_is = greatest ∙ ap greatest_txn (sym history);
            };
          };
          size_is = step.size ∙ finds.redone.size;
          next_is = ap (λ (n : ℕ). n + 1) (finds.redone.losers.greatest_is ∙ ap greatest_txn (sym history));
          report_is = λ i. record { redo = 0; records = counted i; applied = counted i; undone = undid i };
        }

    pub stops_with : StopsWith later content new.journal.first new.journal.history
    stops_with = record {
      fields = finds.fields;
      batches = finds.attached.batches;
      read = read_then;
      first_is = first_is;
      begins = λ models. subst (λ (h : History). BeginsRestart One h new.journal.history) (sym first_is) (begins_restart (come models));
    }

    pub explains_undo : (old now : Facts) (stored : StoreFault) → old.content ≡ content → (now.models_content → later)
        → IsStop later found.redone.frames.size (acts_of found.records.items) stored → IsStoreFaultIn Log old.faults now.faults stored → Explains old now (of_store stored)
    explains_undo old now (store.Fault (fault.Damaged area at)) same then is cause = λ models.
        let has = read_then.master.has_fields (then models) in
        rw same (record {
          made = λ unmade. unmade has.made;
          damage = subst (λ (a : Area). IsDamage content a at) (sym is.0)
              (inr (inr (record {
                fields = finds.fields;
                batches = finds.attached.batches;
                read = has;
                checkpoint = finds.master.checkpoint;
                has_log = read_then.has_log (then models);
                damage = inr (fit, subst (λ (n : ℕ). IsUndoDamageAt One n read_history at) finds.redone.size (is.1 (then models) read_history begun));
              })));
        })
    explains_undo old now (store.Fault (fault.Volume area)) same then is cause = cause.1
    explains_undo old now store.NoMemory same then is cause = tt
