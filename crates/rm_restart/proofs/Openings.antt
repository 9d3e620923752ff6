-- What is opened, and why not, by what the log and the master said.
use Rattle.std.proofs.Common.{◌≡◌, inl, inr, ℕ, ◌+◌, List, [], ◌∷◌, length, Result, Ok, Err, IfOk, OnOk, false, refl, sym, ap, subst, ◌∙◌}
use Rattle.std.proofs.lemmas.Bool.{true≢false}
use Rattle.rm_types.specs.declared.areas.Area.{Area}
use Rattle.rm_types.specs.declared.slots.Slot.{Slot}
use Rattle.rm_types.specs.declared.areas.Area.TheVariants.{Master, Log}
use Rattle.rm_types.specs.declared.faults.Fault.TheVariants as fault
use Rattle.rm_types.specs.declared.faults.StoreFault.{StoreFault}
use Rattle.rm_types.specs.declared.faults.StoreFault.TheVariants as store
use Rattle.rm_outside.specs.Calls.{Facts, IsStoreFaultIn, LeavesContent}
use Rattle.rm_outside.specs.Images.{Image}
use Rattle.rm_record.specs.declared.records.Logged.{Logged}
use Rattle.rm_master.specs.declared.fields.Fields.{Fields}
use Rattle.rm_master.specs.Fields.{IsFields}
use Rattle.rm_master.specs.Slots.{HasFields}
use Rattle.rm_model.specs.Pages.{PageValue}
use Rattle.rm_model.specs.Files.{page_at, slots_of}
use Rattle.rm_wal.specs.Tails.{LogValue}
use Rattle.rm_wal.specs.Attaching.{Attaches}
use Rattle.rm_history.specs.Logs.{IsDamagedAt as IsLogDamagedAt}
use Rattle.rm_history.specs.Acts.{Change, History, acts_of}
use Rattle.rm_history.specs.Pending.{pending_of}
use Rattle.rm_history.specs.Batched.{acts_of_batches}
use Rattle.rm_restart.specs.declared.opening.Opened.{Opened}
use Rattle.rm_restart.specs.declared.opening.Report.{Report}
use Rattle.rm_restart.specs.declared.faults.RestartFault.{RestartFault}
use Rattle.rm_restart.specs.declared.replay.Replay.{Replay}
use Rattle.rm_restart.specs.Opening.{Opens, IsDamage}
use Rattle.rm_restart.specs.Outcomes.{Explains, of_store, IsNone}
use Rattle.rm_restart.specs.Replaying.{has_some, Replays}

-- a fault of the log's attaching
pub explains_store : (old new : Facts) (fields : Fields) (e : StoreFault) → (new.models_content → HasFields (old.content Master) fields) → fields.checkpoint ≡ 0 → LeavesContent new
    → ((area : Area) (at : ℕ) → e ≡ store.Fault (fault.Damaged area at) → (area ≡ Log) × (new.models_content → IsLogDamagedAt (old.content Log) at))
    → IsStoreFaultIn Log old.faults new.faults e → Explains old new (of_store e)
explains_store old new fields (store.Fault (fault.Damaged area at)) has none synced damaged cause =
    let found = damaged area at refl in (
      λ models. record {
        made = λ unmade. unmade (has models).made;
        damage = subst (λ (a : Area). IsDamage old.content a at) (sym found.0)
            (inr (inl (record { fields = fields; read = has models; checkpoint = none; damage = found.1 models })));
      },
      synced,
    )
explains_store old new fields (store.Fault (fault.Volume area)) has none synced damaged cause = cause.1
explains_store old new fields store.NoMemory has none synced damaged cause = tt

none_pending : (changes : List Change) → has_some changes ≡ false → changes ≡ []
none_pending [] none = refl
none_pending (newest ∷ before) none = absurd (true≢false none)

-- the log's replay left nothing pending
pub opens : (modelled : Type 0) (content : Image) (limit : ℕ) (fields : Fields) (log : LogValue) (records : List Logged) (replay : Replay) (result : Result Opened RestartFault)
    → IsFields fields → fields.checkpoint ≡ 0 → (modelled → HasFields (content Master) fields) → Attaches modelled (content Log) limit log records → Replays fields.pages (acts_of records) replay
    → OnOk result (IsNone replay.pending) → IfOk result (λ opened. opened.pages.items ≡ replay.pages.items) → IfOk result (λ opened. opened.next ≡ replay.greatest + 1)
    → IfOk result (λ opened. opened.log ≡ log) → IfOk result (λ opened. opened.report ≡ record { redo = 0; records = replay.inserts; applied = replay.inserts; undone = 0 })
    → IfOk result (λ opened. Opens modelled content limit (slots_of opened.pages.items) opened.next opened.log opened.report.records)
opens modelled content limit fields log records replay (Ok opened) rules no_checkpoint has attached replayed none pages next logged report =
    let history : History = acts_of_batches attached.batches in
    let all : Replays fields.pages history replay = subst (λ (h : History). Replays fields.pages h replay) (sym attached.history_is) replayed in
    record {
      fields = fields;
      batches = attached.batches;
      read = record { is_fields = rules; has_fields = has; checkpoint = no_checkpoint; are_batches = attached.are_batches; has_log = attached.has_log };
      below = all.below;
      plain = all.plain;
      settled = λ id. none_pending (pending_of history id) (sym (all.pending_are id) ∙ none.each id);
      count = ap (λ (items : List PageValue). length (slots_of items)) pages ∙ all.count;
      pages_are = λ page inside. ap (λ (items : List PageValue). page_at (slots_of items) page) pages ∙ all.pages_are page inside;
      next_is = next ∙ ap (λ (n : ℕ). n + 1) all.greatest_is;
      log_is = logged ∙ attached.log_is;
      inserted_is = ap (λ (r : Report). r.records) report ∙ all.inserts_are;
    }
opens modelled content limit fields log records replay (Err e) rules no_checkpoint has attached replayed none pages next logged report = tt

-- what was opened, where the volume models its content to a later moment
pub opens_on : {modelled later : Type 0} {content : Image} {limit : ℕ} {pages : List (List Slot)} {next : ℕ} {log : LogValue} {inserted : ℕ}
    → (later → modelled) → Opens modelled content limit pages next log inserted → Opens later content limit pages next log inserted
opens_on earlier opens = record {
  fields = opens.fields;
  batches = opens.batches;
  read = record {
    is_fields = opens.read.is_fields;
    has_fields = λ models. opens.read.has_fields (earlier models);
    checkpoint = opens.read.checkpoint;
    are_batches = opens.read.are_batches;
    has_log = λ models. opens.read.has_log (earlier models);
  };
  below = opens.below;
  plain = opens.plain;
  settled = opens.settled;
  count = opens.count;
  pages_are = opens.pages_are;
  next_is = opens.next_is;
  log_is = opens.log_is;
  inserted_is = opens.inserted_is;
}
