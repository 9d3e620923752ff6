use Rattle.std.proofs.Common.{◌∙◌, ap, arith}
use Rattle.std.proofs.lemmas.Result.{on_ok_weaker}
use Rattle.rm_types.specs.declared.areas.Area.TheVariants.{Master}
use Rattle.rm_outside.specs.Images.{Image}
use Rattle.rm_master.specs.declared.fields.TheConstants.{PARITY_AT}
use Rattle.rm_master.proofs.slots.write_parity.Goals as goal

pub returns-clause-names : goal.returns-clause-names
returns-clause-names g c =
    on_ok_weaker c.sync_area.result
    (λ synced image left.
    ap (λ area. area PARITY_AT) (synced.each image left)
    ∙ ap (λ (content : Image). content Master PARITY_AT) c.sync_area.ensures.reads.0.content
    ∙ (c.in_ok-write_area.ensures.bytes (c.sync_area.ensures.reads.0.modelled (g.met.V.Volume.only_modelled c.sync_area.new.volume image left))).each 0 (omega arith))
    c.sync_area.ensures.synced
