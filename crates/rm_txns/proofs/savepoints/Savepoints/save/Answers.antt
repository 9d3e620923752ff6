use Rattle.std.proofs.Common.{not, rules}
use Rattle.std.proofs.lemmas.Fn.{filter_same}
use Rattle.rm_txns.specs.Savepoints.{is_of}
use Rattle.rm_txns.proofs.savepoints.Savepoints.save.Goals as goal

pub returns-clause-ok : goal.returns-clause-ok
returns-clause-ok c =
    let kept = filter_same _ (λ s. not (is_of c.args.number s)) _ (λ x b f' k. search rules) _ _ c.retain.ensures.filtered in
    rw (c.push_front_reserved.ensures.items, kept, c.in_ok-try_reserve.ensures.items, c.self.view_is)
