use Rattle.std.proofs.Common.{◌≡◌, inl, inr, arith, ap, sym, ◌∙◌, subst, Option, IfSome, refl}
use Rattle.std.proofs.lemmas.Bool.Decides.{nat_tests}
use Rattle.rm_types.specs.declared.numbers.Rid.{Rid}
use Rattle.rm_pool.specs.Stores.{StoreValue}
use Rattle.rm_undo.specs.declared.changes.Pending.{Pending}
use Rattle.rm_undo.specs.Changes.{IsOf, MayGoBack}
use Rattle.rm_undo.proofs.ChangeLaws.{damage_of, goes_back, made_at, passed}
use Rattle.rm_undo.proofs.changes.change_at.Goals as goal
use Rattle.rm_undo.proofs.changes.change_at.Goals.{then-ne-via-then-ne, then-ne-via-else-ne+then-ge, then-ne-via-else-ne+else-ge+then-pending-size}

pub returns-in_err-found-clause-damaged : goal.returns-in_err-found-clause-damaged
returns-in_err-found-clause-damaged g c =
    passed c.args.lsn c.from_residual.result c.in_err-found.field-0.0 c.from_residual.ensures.1
    (damage_of c.args.lsn c.in_err-found.field-0.0 c.in_err-found.ensures.damaged) (λ none models change has. absurd (none models _ has.is_in has.lsn_is))

pub returns-in_default-clause-damaged : goal.returns-in_default-clause-damaged
returns-in_default-clause-damaged g c = rw c.damaged.ensures (
  refl,
  refl,
  λ models change has.
      let none = made_at c.in_ok-found.found (sym c.change_in.ensures ∙ c.in_default.is) (c.in_ok-found.ensures.found models) has in
      absurd none,
)

pub returns-then-ne-clause-damaged : goal.returns-then-ne-clause-damaged
returns-then-ne-clause-damaged g c = rw c.damaged-then-ne.ensures (
  refl,
  refl,
  λ models change has.
      let makes = sym c.change_in.ensures ∙ c.in-Some.is in
      let of : IsOf change c.in-Some.pending = made_at c.in_ok-found.found makes (c.in_ok-found.ensures.found models) has in
      let same : c.in-Some.pending.txn.0 ≡ c.args.txn.0 = of.txn ∙ has.txn_is in
      elim c.then-ne.branch [
        | then-ne-via-then-ne w ↦ absurd (grind (arith, nat_tests))
        | then-ne-via-else-ne+then-ge w ↦ inl (grind (arith, nat_tests))
        | then-ne-via-else-ne+else-ge+then-pending-size w ↦
            let size = ap (λ (store : StoreValue _). store.frames.size) c.at.ensures.same in
            let page = ap (λ (rid : Rid). rid.page) of.rid in
            inr (omega arith)
      ],
)

pub returns-clause-found : goal.returns-clause-found
returns-clause-found g c = λ models change has.
    made_at c.in_ok-found.found (sym c.change_in.ensures ∙ c.in-Some.is) (c.in_ok-found.ensures.found models) has

pub returns-clause-back : goal.returns-clause-back
returns-clause-back g c =
    let found = c.in_ok-found in
    subst (λ (o : Option Pending). IfSome o MayGoBack) (sym c.change_in.ensures ∙ c.in-Some.is) (goes_back found.found found.ensures.is_record)
