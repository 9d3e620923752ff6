use Rattle.std.proofs.Common.{◌≡◌, ◌∷◌, codes, rules, ap, ◌∙◌}
use Rattle.rm_script.specs.Lines.{lines_of}
use Rattle.rm_script.proofs.ScriptRead.{IfOk-both, turns_end}
use Rattle.rm_script.proofs.reading.read_turns.Goals as goal

pub returns-clause-read : goal.returns-clause-read
returns-clause-read c =
    let same : c.in-Some.text.now ≡ codes "turns" = search rules in
    let first = c.in-Some.ensures.some ∙ ap (λ t. t ∷ lines_of c.in-Some.rest.now) same in
    IfOk-both c.read_turn_lines.result _ _ _ (λ read h stops. turns_end c.args.sessions c.args.bytes.now c.in-Some.rest.now read.1.now read.0.items first h stops) c.read_turn_lines.ensures.read c.read_turn_lines.ensures.stops
