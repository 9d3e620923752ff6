use Rattle.std.proofs.Common.{not, ap, ◌∙◌, rules}
use Rattle.std.specs.List.{filter}
use Rattle.std.proofs.lemmas.Fn.{filter_same}
use Rattle.rm_types.specs.declared.places.Place.{Place}
use Rattle.rm_recovery.proofs.Tables.{is_of, without-is}
use Rattle.rm_recovery.proofs.losers.remove_of.Goals as goal

pub returns : goal.returns
returns c = λ changes are.
    filter_same _ (λ (p : Place). not (is_of c.args.txn.0 p)) _ (λ x b f' k. search rules) _ _ c.retain.ensures.filtered
    ∙ ap (filter (λ (p : Place). not (is_of c.args.txn.0 p))) are ∙ without-is c.args.txn.0 changes
