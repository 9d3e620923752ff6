-- Batches that are read one after another.
use Rattle.std.proofs.Common.{◌≡◌, ℕ, ◌+◌, ◌≤◌, List, [], ◌∷◌, refl, sym, ap, subst, ◌∙◌, arith}
use Rattle.rm_types.specs.declared.numbers.TheConstants.{MAX_LOG}
use Rattle.rm_outside.specs.Images.{Bytes, Shows}
use Rattle.rm_record.specs.declared.records.Logged.{Logged}
use Rattle.rm_history.specs.declared.TheConstants.{BATCH_HEADER}
use Rattle.rm_history.specs.Logs.{gate_of, body_of, IsBatch, IsWrongAfter, IsDamagedAt}
use Rattle.rm_history.specs.Acts.{History}
use Rattle.rm_history.specs.Batched.{acts_after, acts_of_batches}
use Rattle.rm_wal.specs.Batches.{ReadsBatch, ReadsBatches}

-- no batch yet
pub reads_no_batch : (modelled : Type 0) (area : Bytes) → ReadsBatches modelled area 0 []
reads_no_batch modelled area = record { batches = []; are_batches = tt; stands = λ models. tt; gate_is = refl; history_is = refl }

-- one batch more
pub reads_next_batch : {modelled : Type 0} {area : Bytes} {gate next : ℕ} {old new : List Logged} → ReadsBatches modelled area gate old → ReadsBatch modelled area gate next old new → ReadsBatches modelled area next new
reads_next_batch {modelled} {area} {gate} {next} {old} {new} before one =
    let at = before.gate_is in
    let is : IsBatch (gate_of before.batches) one.batch = subst (λ (n : ℕ). IsBatch n one.batch) at one.is in
    record {
      batches = one.batch ∷ before.batches;
      are_batches = (before.are_batches, is);
      stands = λ models. (
        before.stands models,
        is,
        subst (λ (n : ℕ). area n ≡ 1) at (one.shown models).0,
        subst (λ (n : ℕ). Shows area (n + 1) (body_of one.batch)) at (one.shown models).1,
      );
      gate_is = omega (arith, one.next_is, at);
      history_is = ap (λ (n : ℕ). acts_after (acts_of_batches before.batches) (n + BATCH_HEADER) one.batch) (sym at)
          ∙ ap (λ (h : History). acts_after h (gate + BATCH_HEADER) one.batch) before.history_is ∙ sym one.acts_are;
    }

-- the next gate is after this one
pub gates_rise : {modelled : Type 0} {area : Bytes} {gate next : ℕ} {old new : List Logged} → ReadsBatch modelled area gate next old new → (gate + 6 ≤ next) × (next ≤ MAX_LOG)
gates_rise one = (omega (arith, one.next_is, one.is.range.some), omega (arith, one.next_is, one.is.range.in_log))

-- no batch stands after the next gate, which is open
pub damaged_there : {modelled : Type 0} {area : Bytes} {gate at : ℕ} {records : List Logged} → ReadsBatches modelled area gate records → modelled → IsWrongAfter area gate at → IsDamagedAt area at
damaged_there {area = area} {at = at} before models wrong =
    record { batches = before.batches; stands = before.stands models; wrong = subst (λ (n : ℕ). IsWrongAfter area n at) before.gate_is wrong }

-- what was read goes on standing while the volume models its content
pub batches_on : {modelled later : Type 0} {area : Bytes} {gate : ℕ} {records : List Logged} → (later → modelled) → ReadsBatches modelled area gate records → ReadsBatches later area gate records
batches_on earlier before = record { batches = before.batches; are_batches = before.are_batches; stands = λ models. before.stands (earlier models); gate_is = before.gate_is; history_is = before.history_is }
