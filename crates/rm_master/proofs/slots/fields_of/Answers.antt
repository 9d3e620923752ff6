use Rattle.std.proofs.Common.{◌≡◌, false, true, sym, ◌∙◌, subst}
use Rattle.rm_master.specs.Fields.{IsFields}
use Rattle.rm_master.proofs.SlotLemmas.{one_spelling, IsFields-in_range}
use Rattle.rm_master.proofs.slots.fields_of.Goals as goal

pub returns-else-keep_rules-clause-none : goal.returns-else-keep_rules-clause-none
returns-else-keep_rules-clause-none c fields rules is =
    let same = one_spelling fields c.in_ok-fields.fields (IsFields-in_range fields rules) c.in_ok-fields.ensures.in_range (sym is ∙ c.in_ok-fields.ensures.some) in
    let kept = subst IsFields same rules in
    let passes : false ≡ true = c.if-keep_rules.ensures.1 kept in
    cc
