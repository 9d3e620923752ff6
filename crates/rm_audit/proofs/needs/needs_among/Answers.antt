use Rattle.std.proofs.Common.{◌≡◌, ℕ, List, length, reverse, sym, ap, subst, inl, inr, arith}
use Rattle.std.proofs.lemmas.Bool.{cases_eq}
use Rattle.std.proofs.lemmas.List.{length-reverse}
use Rattle.rm_history.specs.Acts.{Change}
use Rattle.rm_audit.specs.Parts.{need_in, IsLed}
use Rattle.rm_audit.specs.NeedMaps.{need_at}
use Rattle.rm_audit.proofs.Pendings.{length-without_led}
use Rattle.rm_audit.proofs.NeedMaps.{IsPut, put_mine, put_other}
use Rattle.rm_audit.proofs.needs.needs_among.Goals as goal

pub loop-txn-smaller : goal.loop-txn-smaller
loop-txn-smaller c =
    let now : List Change = reverse c.loop-txn.left.items in
    let led : IsLed c.in-Some.txn.0 now = rw c.deref.ensures.value at c.in-Some.ensures in
    omega (
      arith,
      length-without_led c.in-Some.txn.0 now led,
      ap length c.remove_of.ensures,
      length-reverse c.loop-txn.left.items,
      length-reverse c.remove_of.new.pending.items,
    )

pub loop-txn-preserved : goal.loop-txn-preserved
loop-txn-preserved c =
    let first : List Change = reverse c.args.left.items in
    let now : List Change = reverse c.loop-txn.left.items in
    let next : List Change = reverse c.remove_of.new.pending.items in
    let led : IsLed c.in-Some.txn.0 now = rw c.deref.ensures.value at c.in-Some.ensures in
    let is : c.need_among.result ≡ need_in now c.args.page c.in-Some.txn.0 = rw c.deref-in-Some.ensures.value at c.need_among.ensures in
    let mine : IsPut first next c.args.page c.in-Some.txn.0 (need_at c.put.new.needs c.in-Some.txn.0) =
    subst (λ (v : ℕ). IsPut first next c.args.page c.in-Some.txn.0 v) (sym c.in_ok-put.ensures.here)
    (put_mine first now next c.args.page c.in-Some.txn.0 (need_at c.loop-txn.needs c.in-Some.txn.0) c.need_among.result led c.remove_of.ensures is
    (c.loop-txn.invariant c.in-Some.txn.0)) in
    λ txn. elim (cases_eq c.in-Some.txn.0 txn) [
      | inl same ↦ subst (λ (t : ℕ). IsPut first next c.args.page t (need_at c.put.new.needs t)) same mine
      | inr other ↦
          subst (λ (v : ℕ). IsPut first next c.args.page txn v) (sym (c.in_ok-put.ensures.others txn (λ same. other (sym same))))
          (put_other first now next c.args.page c.in-Some.txn.0 txn (need_at c.loop-txn.needs txn) other c.remove_of.ensures (c.loop-txn.invariant txn))
    ]
