use Rattle.std.proofs.Common.{reverse, sym, ap, ◌∙◌, rules}
use Rattle.std.proofs.lemmas.Fn.{filter_same}
use Rattle.rm_audit.proofs.Kept.{is_of, filter-reverse, of_txn-is}
use Rattle.rm_audit.proofs.pending.keep_of.Goals as goal

pub returns : goal.returns
returns c =
    ap reverse (filter_same _ (is_of c.args.txn.0) _ (λ x b f' k. search rules) _ _ c.retain.ensures.filtered)
    ∙ filter-reverse (is_of c.args.txn.0) c.args.pending.now.items
    ∙ sym (of_txn-is c.args.txn.0 (reverse c.args.pending.now.items))
