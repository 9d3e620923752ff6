use Rattle.std.proofs.Common.{◌≡◌, ◌∙◌, ◌++◌, length, take, drop}
use Rattle.std.proofs.lemmas.List.{with_items_is}
use Rattle.std.proofs.lemmas.Result.{IfOk-weaker}
use Rattle.rm_types.specs.declared.operations.Op.TheVariants as op
use Rattle.rm_session.specs.Session.{Core}
use Rattle.rm_model.specs.Files.{slots_of}
use Rattle.rm_session.specs.Answers.{Inserts, Draws}
use Rattle.rm_session.proofs.Pages.{inserts_draws}
use Rattle.rm_session.proofs.Session.insert.Goals as goal

pub returns-clause-core : goal.returns-clause-core
returns-clause-core c =
    let fields = c.self.inside in
    let items = fields.pages.items in
    let after = c.insert.new.pages in
    let whole : take fields.pages.len (after ++ drop (length after) items) ≡ after = with_items_is fields.pages after (c.insert.auto.pages ∙ c.deref_mut.ensures.len) in
    let row = c.args.row.now in
    let old : Core = record { pages = slots_of items; next = fields.next; active = fields.active } in
    rw (← c.self.view_is, whole) (IfOk-weaker c.insert.result (λ told. Inserts (slots_of c.deref_mut.result.now) row told (slots_of after)) (λ told. Draws old (op.Insert row) told (record old { pages = slots_of after })) (λ told inserted. inserts_draws old (slots_of after) row told c.if-not-self.false (rw c.deref_mut.ensures.value at inserted)) c.insert.ensures.ok)
