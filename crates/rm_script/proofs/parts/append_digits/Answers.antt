use Rattle.std.proofs.Common.{◌≡◌, arith, length, take, rules, ap}
use Rattle.std.proofs.lemmas.Grind.{common_steps}
use Rattle.hex.proofs.HexLemmas.{length-encode_with}
use Rattle.hex.specs.Hex.{encode_lower, lower_digits}
use Rattle.rm_script.specs.Rows.{hex}
use Rattle.rm_script.proofs.RowDigits.{encode_lower-is, take-written}
use Rattle.rm_script.proofs.parts.append_digits.Goals as goal

pub returns-clause-ok : goal.returns-clause-ok
returns-clause-ok c =
    let row = c.args.row.now in
    let same = encode_lower-is row (λ k. omega (arith, c.type_inv.row k)) in
    let written : c.encode_to_slice.new.output ≡ encode_lower row = search rules in
    let prefix : take c.len-start.result c.deref_mut.result.now ≡ c.args.out.now.items = grind (arith, common_steps) in
    take-written c.args.out.now.items _ c.encode_to_slice.new.output (hex row) _ _ _ prefix (cc (same, written)) (omega (arith, c.in_ok-resize.ensures.len, ap length same, length-encode_with lower_digits row))
