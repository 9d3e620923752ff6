-- What the record of an undo does to a history, and why it cannot be written.
use Rattle.std.proofs.Common.{◌≡◌, ℕ, refl, ap, sym, subst, ◌∙◌, Some, None, ◌∷◌}
use Rattle.rm_types.specs.declared.formats.Format.{Format}
use Rattle.rm_types.specs.declared.numbers.Lsn.{Lsn}
use Rattle.rm_types.specs.declared.numbers.Rid.{Rid}
use Rattle.rm_types.specs.declared.numbers.TxnId.{TxnId}
use Rattle.rm_types.specs.declared.slots.Slot.{Slot}
use Rattle.rm_record.specs.declared.records.LogRecord.TheVariants.{Compensate, Inventory}
use Rattle.rm_history.specs.Acts.{Change, History, act_at, undoes}
use Rattle.rm_history.specs.Contents.{entry_of}
use Rattle.rm_history.specs.Undoing.{category_after, undo_for}
use Rattle.rm_pool.specs.Stores.{StoreValue, on_volume, with_page}
use Rattle.rm_undo.specs.declared.changes.Pending.{Pending}
use Rattle.rm_undo.specs.Changes.{HasChangeAt, IsOf, category_without}
use Rattle.rm_undo.specs.Undoing.{SettlesFor}

-- the store after its volume was read and a page was fixed
pub fixed_is : {V : Type 0} {page : ℕ} (old : StoreValue V) {read fixed : StoreValue V} {volume later : V} → read ≡ on_volume old volume
    → fixed ≡ with_page (on_volume read later) page → fixed ≡ with_page (on_volume old later) page
fixed_is {page = page} old {later = later} read fixed = fixed ∙ ap (λ (store : StoreValue _). with_page (on_volume store later) page) read

module _ {c : Change} {pending : Pending} (of : IsOf c pending) where
  -- what holds of these parts of the change that was found, holds of the change's
  pub of_change : (P : Lsn → Rid → Slot → Type 0) → P pending.under pending.rid pending.before → P (record { 0 = c.under }) c.rid c.before
  of_change P is =
      let under : pending.under ≡ record { 0 = c.under } = ap (λ (n : ℕ). let lsn : Lsn = record { 0 = n } in lsn) of.under in
      let before = subst (P pending.under pending.rid) of.before is in
      subst (λ (l : Lsn). P l c.rid c.before) under (subst (λ (rid : Rid). P pending.under rid c.before) of.rid before)

  -- the compensation undoes it
  pub undid : {txn : TxnId} {lsn : Lsn} {before : History} (next : ℕ) → HasChangeAt before txn.0 lsn.0 c
      → act_at next (Compensate txn lsn pending.under pending.rid pending.before) ≡ undoes (undo_for next c)
  undid {txn} {lsn} next has =
      let what = Compensate txn lsn pending.under pending.rid pending.before in
      of_change (λ under rid back. act_at next what ≡ act_at next (Compensate txn lsn under rid back)) refl ∙ rw (has.lsn_is, has.txn_is)

  -- ---- the entry

  module _ {before now : History} (same : now ≡ before) where
    entry_is : entry_of now pending.rid.page ≡ entry_of before c.rid.page
    entry_is = cc

    without_is : (format : Format) → category_without format now pending ≡ category_after format before c
    without_is format = cc

    -- its page's entry is right
    pub is_right : (format : Format) → entry_of now pending.rid.page ≡ category_without format now pending → SettlesFor format c before None now
    is_right format right = (sym entry_is ∙ right ∙ without_is format, same)

    -- or it is entered
    pub is_entered : (format : Format) {txn : TxnId} {lsn after : Lsn} {category next : ℕ} {new : History} → HasChangeAt before txn.0 lsn.0 c
        → category ≡ category_without format now pending → (entry_of now pending.rid.page ≡ category → ⊥) → after.0 ≡ next
        → new ≡ act_at next (Inventory txn pending.rid.page category) ∷ now → SettlesFor format c before (Some after) new
    is_entered format has is wrong next new =
        let page = ap (λ (rid : Rid). rid.page) of.rid in
        let right = is ∙ without_is format in
        (λ entry. wrong (entry_is ∙ entry ∙ sym right), cc)
