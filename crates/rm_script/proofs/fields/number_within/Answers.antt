use Rattle.std.proofs.Common.{◌≡◌, arith}
use Rattle.rm_script.proofs.Numbers.{same_number}
use Rattle.rm_script.proofs.fields.number_within.Goals as goal
use Rattle.rm_script.proofs.fields.number_within.Goals.{else-low-number-via-then-low-number+else-number-high, else-low-number-via-else-low-number}

pub returns-else-low-number-clause-none : goal.returns-else-low-number-clause-none
returns-else-low-number-clause-none c = λ n low high e.
    let same : c.in_ok-number.number ≡ n = same_number c.args.text.now c.in_ok-number.number n (omega arith) (omega arith) c.in_ok-number.ensures.some e in
    elim c.else-low-number.branch [
      | else-low-number-via-then-low-number+else-number-high w ↦ omega arith
      | else-low-number-via-else-low-number w ↦ omega arith
    ]
