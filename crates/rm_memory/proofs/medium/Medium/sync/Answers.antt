use Rattle.std.proofs.Common.{sym, ◌∙◌, ap, List, is_ok}
use Rattle.rm_memory.specs.declared.notes.Note.{Note}
use Rattle.rm_memory.specs.Areas.{image_of}
use Rattle.rm_memory.specs.Notes.{history}
use Rattle.rm_memory.proofs.NoteLemmas.{pushed_total, pushed_content, history-synced}
use Rattle.rm_memory.proofs.medium.Medium.sync.Goals as goal

pub invariant_of-self : goal.invariant_of-self
invariant_of-self c =
    let self = c.args.self.now in
    record {
      counted = pushed_total (is_ok c.push.result) self.notes.items c.push.new.self.items c.args.area c.push.ensures.items ∙ self.counted;
      kept = self.kept ∙ sym (pushed_content (image_of self.base) (is_ok c.push.result) self.notes.items c.push.new.self.items c.args.area self.bytes.items c.push.ensures.items);
    }

pub returns-clause-ok : goal.returns-clause-ok
returns-clause-ok c =
    let self = c.args.self.now in
    ap (λ (ns : List Note). history ns self.bytes.items) c.in_ok-push.ensures.items ∙ history-synced self.notes.items c.args.area self.bytes.items
