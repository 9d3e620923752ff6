use Rattle.std.proofs.Common.{◌≡◌, ◌*◌, sym, ◌∙◌, ap, subst, arith}
use Rattle.std.proofs.lemmas.Result.{on_ok_weaker}
use Rattle.rm_types.specs.declared.areas.Area.TheVariants.{Log, Data}
use Rattle.rm_types.specs.declared.numbers.TheConstants.{BLOCK_SIZE}
use Rattle.rm_outside.specs.Images.{Bytes}
use Rattle.rm_master.specs.Fresh.{IsZeroBelow}
use Rattle.rm_master.proofs.creation.write_clear.Goals as goal

pub returns-clause-cleared : goal.returns-clause-cleared
returns-clause-cleared g c =
    on_ok_weaker c.clear_blocks-2.result
    (λ zeros models.
    let last = c.clear_blocks-2.ensures.writes.0 in
    let first = c.clear_blocks.ensures.writes.0 in
    let cleared = last.modelled models in
    let gate = (c.in_ok-write_area.ensures.bytes (first.modelled cleared)).each 0 (omega arith) in
    let log : g.V.Volume.content c.clear_blocks-2.new.volume Log ≡ g.V.Volume.content c.write_area.new.volume Log =
    last.content.each Log (λ is. cc) ∙ first.content.each Log (λ is. cc) in
    record {
      gate = λ is. absurd (omega (arith, sym (ap (λ (b : Bytes). b 0) log) ∙ is, gate));
      data_blocks = subst (λ (b : Bytes). IsZeroBelow b (BLOCK_SIZE * c.args.pages)) (sym (last.content.each Data (λ is. cc))) (c.in_ok-clear_blocks.ensures.zeros cleared);
      space = rw c.space_block_count.ensures at (zeros models);
    })
    c.clear_blocks-2.ensures.zeros
