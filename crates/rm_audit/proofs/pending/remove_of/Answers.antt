use Rattle.std.proofs.Common.{not, reverse, sym, ap, ◌∙◌, rules}
use Rattle.std.proofs.lemmas.Fn.{filter_same}
use Rattle.rm_audit.proofs.Kept.{is_of, filter-reverse, without-is}
use Rattle.rm_audit.proofs.pending.remove_of.Goals as goal

pub returns : goal.returns
returns c =
    ap reverse (filter_same _ (λ x. not (is_of c.args.txn.0 x)) _ (λ x b f' k. search rules) _ _ c.retain.ensures.filtered)
    ∙ filter-reverse (λ x. not (is_of c.args.txn.0 x)) c.args.pending.now.items
    ∙ sym (without-is c.args.txn.0 (reverse c.args.pending.now.items))
