-- What an audit looks at after a record decides whether there is room on all pages, and whether the inventory follows.
use Rattle.std.proofs.Common.{◌≡◌, ℕ, ◌+◌, ◌-◌, ◌<◌, Bool, true, false, IsTrue, ◌↔◌, MatchBool, List, ◌∷◌, Some, None, length}
use Rattle.std.proofs.Common.{take, get_or, refl, sym, ap, subst, ◌∙◌, arith}
use Rattle.std.proofs.lemmas.List.{take_all}
use Rattle.std.proofs.lemmas.Option.{same_Some}
use Rattle.rm_types.specs.declared.formats.Format.{Format}
use Rattle.rm_types.specs.declared.numbers.TxnId.{TxnId}
use Rattle.rm_record.specs.declared.records.LogRecord.{LogRecord}
use Rattle.rm_record.specs.declared.records.LogRecord.TheVariants.{Insert, Delete, Update, Compensate, Inventory, Commit, End, Checkpoint}
use Rattle.rm_record.specs.declared.records.Logged.{Logged}
use Rattle.rm_history.specs.Acts.{Act, History, commits, act_at, act_of, acts_of, lsn_of, newest_lsn}
use Rattle.rm_history.specs.Pending.{pending_of}
use Rattle.rm_history.specs.Needs.{FitsOn, Fits}
use Rattle.rm_history.specs.Rules.{MayCome}
use Rattle.rm_history.specs.Legal.{IsEntered, EntriesFollow, IsLegal}
use Rattle.rm_history.proofs.Appending.{lsn_of-act_at}
use Rattle.rm_history.proofs.Prefixes.{legal_is_in_order}
use Rattle.rm_history.proofs.UndoTheorem.{fits_in_order, entries_follow}
use Rattle.rm_audit.specs.Parts.{page_in, EachFollows}
use Rattle.rm_audit.proofs.Following.{IsCommitOf, keeps_entries}
use Rattle.rm_audit.proofs.Prefixes.{acts_more}
use Rattle.rm_audit.proofs.Room.{keeps_room}

-- the newest LSN is the last record's
pub newest_is : (log : List Logged) (last : Logged) → 0 < length log → last ≡ get_or log (length log - 1) last → newest_lsn (acts_of log) ≡ last.lsn.0
newest_is log last some is =
    let all : take (length log - 1 + 1) log ≡ log = take_all (length log - 1 + 1) log (omega arith) in
    ap newest_lsn (ap acts_of (sym all) ∙ acts_more log (length log - 1) last (omega arith) is) ∙ lsn_of-act_at last.lsn.0 last.what

-- an LSN above a log's is above its history's
pub above_is : (before : List Logged) (last : Logged) → newest_lsn (acts_of before) < last.lsn.0 → newest_lsn (acts_of before) < lsn_of (act_of last)
above_is before last above = omega (arith, above, lsn_of-act_at last.lsn.0 last.what)

-- room after a log is room after its history
pub has_fits : (format : Format) (before : List Logged) (last : Logged) (history : History) → history ≡ act_of last ∷ acts_of before
    → IsLegal format (acts_of before) → MayCome (acts_of before) (act_of last)
    → (MayCome (acts_of before) (act_of last) → Fits (acts_of before) → Fits history) → Fits (act_of last ∷ acts_of before)
has_fits format before last history is legal may room =
    subst Fits is (room may (fits_in_order (acts_of before) (legal_is_in_order format (acts_of before) legal)))

-- with all of its parts a record makes a legal history
pub is_legal : (format : Format) (before : List Logged) (last : Logged) (history : History) → history ≡ act_of last ∷ acts_of before
    → IsLegal format (acts_of before) → newest_lsn (acts_of before) < last.lsn.0 → MayCome (acts_of before) (act_of last)
    → Fits (act_of last ∷ acts_of before) → IsEntered format (acts_of before) (act_of last)
    → (MayCome (acts_of before) (act_of last) → IsEntered format (acts_of before) (act_of last) → EntriesFollow format (acts_of before)
    → EntriesFollow format history)
    → IsLegal format (act_of last ∷ acts_of before)
is_legal format before last history is legal above may fits entered follow = (
  legal,
  record { above = above_is before last above; may_come = may; fits = fits },
  record { entered = entered; follow = subst (EntriesFollow format) is (follow may entered (entries_follow format (acts_of before) legal)) },
)

-- room on the page that a record sets is room on all
pub room_with : (act : Act) (before history : History) (page : ℕ) (found : Bool) → history ≡ act ∷ before → page_in act ≡ Some page
    → (IsTrue found ↔ FitsOn history page)
    → MatchBool found (MayCome before act → Fits before → Fits history) (Fits history → ⊥)
room_with act before history page true is set on =
    λ may fits. subst Fits (sym is)
    (keeps_room act before may fits
    (λ other also. subst (FitsOn (act ∷ before)) (same_Some page other (sym set ∙ also)) (subst (λ (h : History). FitsOn h page) is (on.0 refl))))
room_with act before history page false is set on = λ fits. let yes : false ≡ true = on.1 (fits page) in cc

pub room_without : (act : Act) (before history : History) → history ≡ act ∷ before → page_in act ≡ None → MayCome before act → Fits before → Fits history
room_without act before history is none may fits =
    subst Fits (sym is) (keeps_room act before may fits (λ page set. let both : None ≡ Some page = sym none ∙ set in cc))

-- the inventory follows where no record is a commit, and where the pages of a commit follow
pub followed_without : (format : Format) (act : Act) (before history : History) → history ≡ act ∷ before
    → ((txn : ℕ) → IsCommitOf act txn → ⊥) → MayCome before act → IsEntered format before act → EntriesFollow format before
    → EntriesFollow format history
followed_without format act before history is other may entered follow =
    subst (EntriesFollow format) (sym is) (keeps_entries format act before may entered follow (λ txn commit. absurd (other txn commit)))

pub followed_with : (format : Format) (last : Logged) (txn : TxnId) (before history : History) (found : Bool) → last.what ≡ Commit txn
    → history ≡ act_of last ∷ before
    → MatchBool found (EachFollows format history (pending_of before txn.0)) (EntriesFollow format history → ⊥)
    → MatchBool found (MayCome before (act_of last) → IsEntered format before (act_of last) → EntriesFollow format before
    → EntriesFollow format history) (EntriesFollow format history → ⊥)
followed_with format last txn before history true what is each =
    let act : act_of last ≡ commits (record { lsn = last.lsn.0; txn = txn.0 }) = ap (act_at last.lsn.0) what in
    λ may entered follow. subst (EntriesFollow format) (sym is) (keeps_entries format (act_of last) before may entered follow
    (λ other commit.
    let same : txn.0 ≡ other = subst (λ (a : Act). IsCommitOf a other) act commit in
    subst (λ (t : ℕ). EachFollows format (act_of last ∷ before) (pending_of before t)) same
    (subst (λ (h : History). EachFollows format h (pending_of before txn.0)) is each)))
followed_with format last txn before history false what is each = each

-- what is no commit record does no commit
pub no_commit : (lsn : ℕ) (what : LogRecord) → ((txn : TxnId) → what ≡ Commit txn → ⊥) → (txn : ℕ) → IsCommitOf (act_at lsn what) txn → ⊥
no_commit lsn (Insert by under rid need row) other txn is = is
no_commit lsn (Delete by under rid need old) other txn is = is
no_commit lsn (Update by under rid need old new) other txn is = is
no_commit lsn (Compensate by undone next rid back) other txn is = is
no_commit lsn (Inventory by page category) other txn is = is
no_commit lsn (Commit by) other txn is = other by refl
no_commit lsn (End by) other txn is = is
no_commit lsn (Checkpoint next losers pages blocks) other txn is = is
