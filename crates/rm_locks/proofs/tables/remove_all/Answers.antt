use Rattle.std.proofs.Common.{inl, inr, is_some, sym, ap, ◌∙◌, arith}
use Rattle.std.proofs.lemmas.Bool.{false≢true}
use Rattle.std.proofs.lemmas.Grind.{common_steps}
use Rattle.std.proofs.lemmas.List.Elements.{Contains-push_cases}
use Rattle.rm_locks.proofs.tables.remove_all.Goals as goal

pub loop-rid-preserved : goal.loop-rid-preserved
loop-rid-preserved c =
    record {
      left = λ rid ready.
          elim (Contains-push_cases c.pop.new.self.items c.in-Some.rid rid (rw c.in-Some.ensures.items at (c.loop-rid.invariant.left rid (grind (arith, common_steps))))) [
            | inl before ↦ before
            | inr same ↦ absurd (false≢true (ap is_some (sym (rw same at c.remove.ensures.updates.1)) ∙ ready))
          ];
      others = λ other rid apart. grind (arith, common_steps, c.loop-rid.invariant.others other rid);
    }
