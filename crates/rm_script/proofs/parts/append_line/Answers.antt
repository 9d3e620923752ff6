use Rattle.std.proofs.Common.{◌≤◌, length, take, vec_len, ap, sym, ◌∙◌, arith, length-append}
use Rattle.std.proofs.lemmas.List.{take-take, take_at}
use Rattle.rm_script.specs.Parts.{parts_text}
use Rattle.rm_script.proofs.parts.append_line.Goals as goal

pub returns-in_err-append_part-clause-prefix : goal.returns-in_err-append_part-clause-prefix
returns-in_err-append_part-clause-prefix c =
    let before = vec_len c.args.out.now in
    let text = parts_text (take c.loop-part.part-index c.args.parts.now) in
    let longer : before ≤ vec_len c.loop-part.out = omega (arith, ap length c.loop-part.invariant, length-append c.args.out.now.items text) in
    sym (take-take before (vec_len c.loop-part.out) c.append_part.new.out.items longer)
    ∙ ap (λ bytes. take before bytes) (c.in_err-append_part.ensures.prefix ∙ c.loop-part.invariant)
    ∙ take_at c.args.out.now.items text before (omega arith)
