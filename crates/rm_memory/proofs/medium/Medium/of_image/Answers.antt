use Rattle.std.proofs.Common.{sym, ◌∙◌}
use Rattle.rm_memory.specs.Areas.{image_of}
use Rattle.rm_memory.proofs.NoteLemmas.{fresh_history, fresh_total, fresh_content}
use Rattle.rm_memory.proofs.medium.Medium.of_image.Goals as goal

pub invariant_of-result : goal.invariant_of-result
invariant_of-result c = record {
  counted = fresh_total c.new.result.items c.new-2.result.items c.new.ensures.items c.new-2.ensures.items;
  kept = c.in_ok-current.ensures ∙ sym (fresh_content (image_of c.args.image) c.new.result.items c.new-2.result.items c.new.ensures.items);
}

pub returns-clause-fresh : goal.returns-clause-fresh
returns-clause-fresh c = fresh_history c.new.result.items c.new-2.result.items c.new.ensures.items
