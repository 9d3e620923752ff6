use Rattle.std.proofs.Common.{◌∷◌, ap, inl, inr, subst, ◌∙◌}
use Rattle.rm_record.specs.declared.records.LogRecord.TheVariants.{Compensate}
use Rattle.rm_history.specs.Acts.{Act}
use Rattle.rm_model.specs.Pages.{row_length}
use Rattle.rm_types.specs.declared.numbers.Rid.{Rid}
use Rattle.rm_pool.specs.Stores.{CannotWrite, StoreValue, with_page, written}
use Rattle.rm_undo.proofs.ChangeLaws.{passed}
use Rattle.rm_undo.proofs.UndoLaws.{fixed_is, of_change, undid}
use Rattle.rm_undo.proofs.undoing.undo_change.Goals as goal

pub returns-in_err-pending-clause-damaged : goal.returns-in_err-pending-clause-damaged
returns-in_err-pending-clause-damaged g c =
    passed c.args.lsn c.from_residual.result c.in_err-pending.field-0.0 c.from_residual.ensures.1 c.in_err-pending.ensures.damaged
    (λ astray models change has. inl (astray models change has))

pub returns-in_err-lsn-clause-damaged : goal.returns-in_err-lsn-clause-damaged
returns-in_err-lsn-clause-damaged g c =
    let pending = c.in_ok-pending.pending in
    let fixed = fixed_is c.args.store.now c.in_ok-pending.ensures.same c.in_ok-fix.ensures.ok in
    passed c.args.lsn c.from_residual-in_err-lsn.result c.in_err-lsn.field-0.0 c.from_residual-in_err-lsn.ensures.1 c.in_err-lsn.ensures.damaged
    (λ cannot models change has.
    let still = subst (λ (store : StoreValue _). g.V.Volume.models_content store.journal.volume) c.in_err-lsn.ensures.err models in
    let of = c.in_ok-pending.ensures.found (c.in_ok-fix.ensures.modelled still) change has in
    let what = Compensate c.args.txn c.args.lsn pending.under pending.rid pending.before in
    inr (of_change of (λ under rid back. CannotWrite (with_page c.args.store.now rid.page) (Compensate c.args.txn c.args.lsn under rid back))
    (subst (λ (store : StoreValue _). CannotWrite store what) fixed cannot)))

pub returns-clause-undoes : goal.returns-clause-undoes
returns-clause-undoes g c = λ models change has.
    let pending = c.in_ok-pending.pending in
    let what = Compensate c.args.txn c.args.lsn pending.under pending.rid pending.before in
    let fixed = fixed_is c.args.store.now c.in_ok-pending.ensures.same c.in_ok-fix.ensures.ok in
    let still = subst (λ (store : StoreValue _). g.V.Volume.models_content store.journal.volume) c.in_ok-lsn.ensures.ok models in
    let of = c.in_ok-pending.ensures.found (c.in_ok-fix.ensures.modelled still) change has in
    record {
      new_is = ap (λ (store : StoreValue _). store.journal.history) (c.in_ok-lsn.ensures.ok ∙ ap (λ (store : StoreValue _). written store what) fixed)
          ∙ ap (λ (act : Act). act ∷ c.args.store.now.journal.history) (undid of _ has);
      page = ap (λ (rid : Rid). rid.page) of.rid;
      need = of.need;
      next = of.under;
      before = c.held_bytes-before.ensures.value ∙ ap row_length of.before;
    }
