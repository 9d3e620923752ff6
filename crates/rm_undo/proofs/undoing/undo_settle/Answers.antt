use Rattle.std.proofs.Common.{ap, inl, subst, ◌∙◌}
use Rattle.rm_pool.specs.Stores.{StoreValue}
use Rattle.rm_undo.proofs.ChangeLaws.{passed}
use Rattle.rm_undo.proofs.UndoLaws.{is_entered, is_right}
use Rattle.rm_undo.proofs.undoing.undo_settle.Goals as goal

pub returns-in_err-pending-clause-damaged : goal.returns-in_err-pending-clause-damaged
returns-in_err-pending-clause-damaged g c =
    passed c.args.lsn c.from_residual.result c.in_err-pending.field-0.0 c.from_residual.ensures.1 c.in_err-pending.ensures.damaged
    (λ astray models change has. inl (astray models change has))

pub returns-in_default-clause-settles : goal.returns-in_default-clause-settles
returns-in_default-clause-settles g c = λ models change has.
    let past = λ (store : StoreValue _). store.journal.history in
    let same = ap past c.in_ok-fix_block.ensures.ok ∙ ap past c.in_ok-fix.ensures.ok ∙ ap past c.in_ok-pending.ensures.same in
    let of = c.in_ok-pending.ensures.found (c.in_ok-fix.ensures.modelled (c.in_ok-fix_block.ensures.modelled models)) change has in
    is_right of same c.args.format c.in_default.ensures.right

pub returns-clause-settles : goal.returns-clause-settles
returns-clause-settles g c = λ models change has.
    let past = λ (store : StoreValue _). store.journal.history in
    let same = ap past c.in_ok-fix_block.ensures.ok ∙ ap past c.in_ok-fix.ensures.ok ∙ ap past c.in_ok-pending.ensures.same in
    let still = subst (λ (store : StoreValue _). g.V.Volume.models_content store.journal.volume) c.in_ok-write.ensures.ok models in
    let of = c.in_ok-pending.ensures.found (c.in_ok-fix.ensures.modelled (c.in_ok-fix_block.ensures.modelled still)) change has in
    is_entered of same c.args.format has c.in-Some.ensures.value c.in-Some.ensures.wrong c.in_ok-write.ensures.lsn (ap past c.in_ok-write.ensures.ok)
