-- The history of a log's prefix, as the prefix grows by a record.
use Rattle.std.proofs.Common.{◌≡◌, ℕ, ◌+◌, ◌<◌, List, [], ◌∷◌, ◌++◌, length, take, drop, get_or, sym, ap, subst, ◌∙◌}
use Rattle.std.proofs.lemmas.List.{take_more, take-append-drop}
use Rattle.rm_types.specs.declared.numbers.Rid.{Rid}
use Rattle.rm_record.specs.declared.records.Logged.{Logged}
use Rattle.rm_history.specs.Acts.{Act, History, act_of, acts_onto, acts_of}
use Rattle.rm_history.proofs.PendingLaws.{change_stays}
use Rattle.rm_history.proofs.Finished.{record_stays}
use Rattle.rm_history.proofs.Appending.{acts_of-snoc, acts_onto-append}
use Rattle.rm_history.specs.Transactions.{HasRecord, HasChange}

-- the prefix with one record more
pub acts_more : (log : List Logged) (i : ℕ) (newest : Logged) → i < length log → newest ≡ get_or log i newest
    → acts_of (take (i + 1) log) ≡ act_of newest ∷ acts_of (take i log)
acts_more log i newest inside is =
    ap acts_of (take_more log i newest inside ∙ ap (λ (x : Logged). take i log ++ x ∷ []) (sym is)) ∙ acts_of-snoc (take i log) newest

-- ---- what a prefix has, the log has

-- what stays as records are added, and holds of the prefix with this record, holds of the log
along : (P : History → Type 0) → ((act : Act) (before : History) → P before → P (act ∷ before)) → (log : List Logged) (history : History)
    → P history → P (acts_onto history log)
along P stays [] history holds = holds
along P stays (oldest ∷ log) history holds = along P stays log (act_of oldest ∷ history) (stays (act_of oldest) history holds)

whole : (P : History → Type 0) → ((act : Act) (before : History) → P before → P (act ∷ before))
    → (log : List Logged) (i : ℕ) (newest : Logged) → i < length log → newest ≡ get_or log i newest → P (act_of newest ∷ acts_of (take i log)) → P (acts_of log)
whole P stays log i newest inside is holds =
    let prefix : P (acts_of (take (i + 1) log)) = subst P (sym (acts_more log i newest inside is)) holds in
    let split : acts_onto (acts_of (take (i + 1) log)) (drop (i + 1) log) ≡ acts_of log =
    sym (acts_onto-append [] (take (i + 1) log) (drop (i + 1) log)) ∙ ap acts_of (take-append-drop (i + 1) log) in
    subst P split (along P stays (drop (i + 1) log) (acts_of (take (i + 1) log)) prefix)

pub log_has_change : (log : List Logged) (i : ℕ) (newest : Logged) (txn : ℕ) (rid : Rid) → i < length log → newest ≡ get_or log i newest
    → HasChange (act_of newest ∷ acts_of (take i log)) txn rid → HasChange (acts_of log) txn rid
log_has_change log i newest txn rid inside is has = whole (λ h. HasChange h txn rid) (change_stays txn rid) log i newest inside is has

pub log_has_record : (log : List Logged) (i : ℕ) (newest : Logged) (txn : ℕ) → i < length log → newest ≡ get_or log i newest
    → HasRecord (act_of newest ∷ acts_of (take i log)) txn → HasRecord (acts_of log) txn
log_has_record log i newest txn inside is has = whole (λ h. HasRecord h txn) (record_stays txn) log i newest inside is has
