use Rattle.std.proofs.Common.{◌≡◌, ◌≤◌, length, inl, inr, arith}
use Rattle.rm_script.proofs.Numbers.{one_digit, no_plus, no_leading_zero, not_empty, parsed, unparsed, taken, not_taken, utf8_number}
use Rattle.rm_script.proofs.fields.number.Goals as goal
use Rattle.rm_script.proofs.fields.number.Goals.{then-first-eq43-via-then-first-eq43, then-first-eq43-via-else-first-eq43+then-text-gt1}

pub returns-in_err-first-clause-none : goal.returns-in_err-first-clause-none
returns-in_err-first-clause-none c = rw c.from_residual.ensures (λ n. not_empty c.args.text.now n c.in_err-first.ensures.value)

pub returns-then-first-eq43-clause-none : goal.returns-then-first-eq43-clause-none
returns-then-first-eq43-clause-none c = λ n small e.
    elim c.then-first-eq43.branch [
      | then-first-eq43-via-then-first-eq43 w ↦ no_plus c.args.text.now _ n c.in_ok-first.ensures.value small e w.if-first-eq43.true
      | then-first-eq43-via-else-first-eq43+then-text-gt1 w ↦
          let short = no_leading_zero c.args.text.now _ n c.in_ok-first.ensures.value small e w.if-text-gt1.true.0 in
          omega (arith, short, w.if-text-gt1.true.1)
    ]

pub returns-in_err-ok-clause-none : goal.returns-in_err-ok-clause-none
returns-in_err-ok-clause-none c =
    let refused = not_taken c.from_utf8.result _ _ c.in_err-ok.ensures.value c.from_utf8.ensures.cases in
    rw c.from_residual-in_err-ok.ensures (λ n small e. refused.1.0 (utf8_number c.args.text.now n small e))

pub returns-clause-some : goal.returns-clause-some
returns-clause-some c =
    let same = (taken c.from_utf8.result _ _ c.in_ok-ok.field-0 c.in_ok-ok.ensures.value c.from_utf8.ensures.cases).0 in
    let led : c.in_ok-first.field-0.now ≡ 48 → length c.args.text.now ≤ 1 = λ e. elim c.if-text-gt1.either [ inl p ↦ p.1 | inr q ↦ absurd (q e) ] in
    rw c.ok-2.ensures.value (parsed c.args.text.now c.in_ok-first.field-0.now c.parse.result c.in_ok-first.ensures.value c.if-first-eq43.false led (rw same at c.parse.ensures.value.0))

pub returns-clause-none : goal.returns-clause-none
returns-clause-none c =
    let same = (taken c.from_utf8.result _ _ c.in_ok-ok.field-0 c.in_ok-ok.ensures.value c.from_utf8.ensures.cases).0 in
    rw c.ok-2.ensures.value (unparsed c.args.text.now c.parse.result (rw same at c.parse.ensures.value.0))

pub returns-in-48-to-57-clause-some : goal.returns-in-48-to-57-clause-some
returns-in-48-to-57-clause-some c = one_digit c.args.text.now _ (omega arith) (omega arith) (omega arith) (omega arith) c.from.ensures
