-- The needs that changes have logged, and how a need goes on and back.
use Rattle.std.proofs.Common.{◌≡◌, ℕ, List, ◌∷◌, refl, sym, ap, subst, ◌∙◌}
use Rattle.rm_types.specs.declared.formats.Format.{Format}
use Rattle.rm_history.specs.Acts.{Change, History, enters}
use Rattle.rm_history.specs.Pending.{pending_of}
use Rattle.rm_history.specs.Needs.{on_page, need_for, need_of}
use Rattle.rm_history.specs.Rules.{IsInOrder}
use Rattle.rm_history.specs.Undoing.{entry_for, undo_for, Undone}
use Rattle.rm_history.specs.RoomLaws.{NeedsAreLogged, NeedsGoOn}
use Rattle.rm_history.proofs.PendingInduction.{pending_by}
use Rattle.rm_history.proofs.PendingLaws.{finished_has_none}
use Rattle.rm_history.proofs.Chains.{last_is_of}
use Rattle.rm_history.proofs.NeedSums.{pending_of-undo, need_of-change}
use Rattle.rm_history.proofs.UndoSteps.{undone_either}

-- each pending change has its need
needs_are_logged : (history : History) → IsInOrder history → (txn : ℕ) → NeedsAreLogged (pending_of history txn)
needs_are_logged =
    pending_by IsInOrder (λ h t pending. NeedsAreLogged pending)
    (record {
      known = λ act before known. known.0;
      none = λ h t. tt;
      stays = λ act before t pending are. are;
      less = λ h t newest rest are. are.1;
      more = λ c before known are. (known.1.may_come.need_is, are);
    })

-- after an undo the need is what the change has logged
back : (start : Format) (before new : History) (txn : ℕ) (last : Change) (rest : List Change) → IsInOrder before
    → pending_of before txn ≡ last ∷ rest → Undone start before last new → need_of new txn last.rid.page ≡ last.need
back start before new txn last rest ordered is undone =
    let of_it : last.txn ≡ txn = last_is_of before txn last rest is in
    let logged = subst NeedsAreLogged is (needs_are_logged before ordered txn) in
    let mine : pending_of before last.txn ≡ last ∷ rest = ap (pending_of before) of_it ∙ is in
    let left : pending_of new last.txn ≡ rest =
    undone_either start before new last (λ h. pending_of h last.txn ≡ rest) undone
    (λ lsn above right. pending_of-undo before (undo_for lsn last) last rest mine)
    (λ next lsn above later wrong. pending_of-undo (enters (entry_for start next before last) ∷ before) (undo_for lsn last) last rest mine) in
    ap (λ (t : ℕ). need_of new t last.rid.page) (sym of_it) ∙ ap (λ (all : List Change). need_for (on_page last.rid.page all)) left ∙ sym logged.0

pub needs_go_on : NeedsGoOn
needs_go_on = record {
  changed = λ before c. need_of-change before c c.rid.page refl;
  logged = needs_are_logged;
  undone = back;
  finished = λ history ordered txn page finished. ap (λ (all : List Change). need_for (on_page page all)) (finished_has_none history ordered txn finished);
}
