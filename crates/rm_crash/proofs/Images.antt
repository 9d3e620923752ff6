-- Images, and the histories of their logs.
use Rattle.std.specs.Prelude.{◌≡◌, ◌≢◌, ℕ, ◌+◌, ◌≤◌, List, [], ◌∷◌, length}
use Rattle.std.proofs.Common.{inl, refl, sym, ap, subst, arith, ◌∙◌}
use Rattle.rm_types.specs.declared.areas.Area.TheVariants.{Master, Log}
use Rattle.rm_types.specs.declared.numbers.TheConstants.{MAX_LOG}
use Rattle.rm_outside.specs.Images.{Bytes, Image, KeepsOthers}
use Rattle.rm_master.specs.declared.fields.Fields.{Fields}
use Rattle.rm_master.specs.Slots.{HasFields, current, slot_at}
use Rattle.rm_master.proofs.SlotLemmas.{one_shown}
use Rattle.rm_record.specs.Records.{spelling}
use Rattle.rm_history.specs.declared.TheConstants.{BATCH_HEADER}
use Rattle.rm_history.specs.Acts.{History, act_at}
use Rattle.rm_history.specs.Batched.{AreBelow, acts_after, acts_of_batches}
use Rattle.rm_history.specs.Logs.{Batch, AreBatches, HasLog, Stands, gate_of}
use Rattle.rm_history.specs.Sizes.{end_of, IsNext}
use Rattle.rm_history.specs.UndoBytes.{undo_bytes}
use Rattle.rm_history.proofs.Appending.{lsn_of-act_at}
use Rattle.rm_history.proofs.Readings.{log_once}
use Rattle.rm_image.specs.Starts.{Start}
use Rattle.rm_image.proofs.CheckpointLaws.{checkpoints_are_records}
use Rattle.rm_image.proofs.FreshLaws.{fresh_is_sound}
use Rattle.rm_image.proofs.SoundLaws.{log_images_are_sound}
use Rattle.rm_pool.proofs.Journals.{batches_end, newest_end, next_at_gate}
use Rattle.rm_crash.specs.Crashes.{IsKept, IsFound}
use Rattle.rm_crash.specs.Laws.{FoundIsOfLog, FoundIsRead, FreshIsFound}
use Rattle.rm_crash.proofs.Steps.{ArePlaced}

-- ---- the records of batches stand where the next ones may

placed_after : (history : History) (at : ℕ) (batch : Batch) → ArePlaced history → IsNext history at → ArePlaced (acts_after history at batch)
placed_after history at [] placed next = placed
placed_after history at (first ∷ batch) placed next =
    placed_after (act_at at first ∷ history) (at + length (spelling first)) batch
    (placed, subst (IsNext history) (sym (lsn_of-act_at at first)) next) (inl (sym (newest_end at first)))

pub placed_batches : (batches : List Batch) → AreBatches batches → ArePlaced (acts_of_batches batches)
placed_batches [] are = tt
placed_batches (batch ∷ batches) are =
    let next = next_at_gate (acts_of_batches batches) (gate_of batches + BATCH_HEADER) (ap (λ (n : ℕ). n + BATCH_HEADER) (batches_end batches are.0)) in
    placed_after (acts_of_batches batches) (gate_of batches + BATCH_HEADER) batch (placed_batches batches are.0) next

pub standing_batches : (area : Bytes) (batches : List Batch) → Stands area batches → AreBatches batches
standing_batches area [] stands = tt
standing_batches area (batch ∷ batches) stands = (standing_batches area batches stands.0, stands.1)

-- ---- what is known of the history of a sound log

pub record IsSoundHistory (start : Start) (history : History) : Type 0 where
  pub kept : IsKept start.format history
  pub below : AreBelow start.pages history
  pub room : end_of history + (BATCH_HEADER + undo_bytes start.format history) ≤ MAX_LOG

pub found_history : (start : Start) (fields : Fields) (history : History) (c : Image) → IsFound start fields history c → IsSoundHistory start history
found_history start fields history c found =
    let log = found.sound.log in
    let are = standing_batches (c Log) found.batches found.sound.has_log.stands in
    subst (IsSoundHistory start) found.history_is (record { kept = log.rules; below = log.below; room = omega (arith, log.room, batches_end found.batches are) })

-- its master names no checkpoint
names_none : (start : Start) (fields : Fields) (history : History) (c : Image) → IsFound start fields history c → fields.checkpoint ≡ 0
names_none start fields history c found =
    checkpoints_are_records fields found.batches found.sound.checkpoint.named found.sound.log.rules.1 found.sound.checkpoint.has

pub found_is_of_log : FoundIsOfLog
found_is_of_log start fields history c found =
    let sound = found.sound in (
      record {
        master = sound.master;
        version = sound.version;
        size = sound.size;
        has_log = sound.has_log;
        log = record { rules = sound.log.rules.0; below = sound.log.below; room = sound.log.room };
        checkpoint = sound.checkpoint;
        copy = sound.copy;
      },
      names_none start fields history c found,
    )

pub found_is_read : FoundIsRead
found_is_read start fields others history c batches found has has_log = (
  one_shown (c Master) (slot_at (current (c Master))) fields others found.sound.master.rules has.rules found.sound.master.slot has.slot,
  sym found.history_is ∙ ap acts_of_batches (log_once (c Log) found.batches batches found.sound.has_log has_log),
)

-- an image with such a log, and with the master of one that was found, is found too
pub with_log : (start : Start) (fields : Fields) (first history : History) (d c : Image) (batches : List Batch) → IsFound start fields first d
    → KeepsOthers Log d c → HasLog (c Log) batches → acts_of_batches batches ≡ history → IsSoundHistory start history → IsFound start fields history c
with_log start fields first history d c batches found keeps has is sound =
    let of_batches : IsSoundHistory start (acts_of_batches batches) = subst (IsSoundHistory start) (sym is) sound in
    let end : end_of (acts_of_batches batches) ≡ gate_of batches = batches_end batches (standing_batches (c Log) batches has.stands) in
    let other : Master ≢ Log = λ same. cc in
    record {
      batches = batches;
      history_is = is;
      sound = (log_images_are_sound IsKept c start fields batches (names_none start fields first d found) found.no_copy).1 (record {
        master = subst (λ (area : Bytes). HasFields area fields) (sym (keeps.each Master other)) found.sound.master;
        version = found.sound.version;
        size = found.sound.size;
        has_log = has;
        log = record { rules = of_batches.kept; below = of_batches.below; room = omega (arith, of_batches.room, end) };
      });
      no_copy = found.no_copy;
    }

-- ---- a new volume

-- nothing is to be undone in a log without records
pub fresh_is_found : FreshIsFound
fresh_is_found = record {
  found = λ pages c fresh. record { batches = []; history_is = refl; sound = fresh_is_sound IsKept pages c (tt, tt) fresh; no_copy = refl };
  opens = λ pages sessions. record {
    restarted = record { undone = []; undoes_all = refl; ends_all = refl };
    run = record {
      opening = record {
        legal = tt;
        finished = λ txn none. absurd none;
        right = λ page. refl;
        fresh = λ txn none. absurd none;
        some = omega arith;
        ids = omega arith;
        room = omega arith;
      };
      runs = (refl, refl);
    };
    limit = omega arith;
    no_checkpoint = tt;
  };
}
