-- Where a log that is not legal breaks off.
use Rattle.std.proofs.Common.{◌≡◌, ℕ, ◌+◌, ◌<◌, List, [], ◌∷◌, ◌++◌, length, take, drop, get_or, refl, sym, ap, subst, ◌∙◌}
use Rattle.std.proofs.lemmas.List.{append_assoc, take_more, take-append-drop}
use Rattle.rm_types.specs.declared.formats.Format.{Format}
use Rattle.rm_record.specs.declared.records.Logged.{Logged}
use Rattle.rm_history.specs.Acts.{History, act_of, acts_onto, acts_of}
use Rattle.rm_history.specs.Legal.{IsLegal}
use Rattle.rm_audit.specs.declared.verdicts.Illegal.{Illegal}
use Rattle.rm_audit.specs.Verdicts.{conditions_of, IsFirstBroken, IsFirstIllegal}
use Rattle.rm_audit.proofs.Breaking.{first_refused}
use Rattle.rm_history.proofs.Appending.{acts_onto-append}
use Rattle.rm_audit.proofs.Prefixes.{acts_more}

onto_legal : (format : Format) (history : History) (log : List Logged) → IsLegal format (acts_onto history log) → IsLegal format history
onto_legal format history [] legal = legal
onto_legal format history (oldest ∷ log) legal = (onto_legal format (act_of oldest ∷ history) log legal).0

-- a prefix of a legal log is legal
pub legal_prefix : (format : Format) (log : List Logged) (i : ℕ) (newest : Logged) → i < length log → newest ≡ get_or log i newest
    → IsLegal format (acts_of log) → IsLegal format (act_of newest ∷ acts_of (take i log))
legal_prefix format log i newest inside is legal =
    let split : acts_of log ≡ acts_onto (acts_of (take (i + 1) log)) (drop (i + 1) log) =
    ap acts_of (sym (take-append-drop (i + 1) log)) ∙ acts_onto-append [] (take (i + 1) log) (drop (i + 1) log) in
    subst (IsLegal format) (acts_more log i newest inside is)
    (onto_legal format (acts_of (take (i + 1) log)) (drop (i + 1) log) (subst (IsLegal format) split legal))

-- a log is what stands before a record, the record, and what stands after it
split_at : (log : List Logged) (i : ℕ) (newest : Logged) → i < length log → newest ≡ get_or log i newest → log ≡ take i log ++ newest ∷ drop (i + 1) log
split_at log i newest inside is =
    sym (take-append-drop (i + 1) log)
    ∙ ap (λ (l : List Logged). l ++ drop (i + 1) log) (take_more log i newest inside ∙ ap (λ (x : Logged). take i log ++ x ∷ []) (sym is))
    ∙ append_assoc (take i log) (newest ∷ []) (drop (i + 1) log)

-- the first record that breaks a condition
pub first_illegal : (format : Format) (log : List Logged) (i : ℕ) (newest : Logged) (broken : Illegal) → i < length log
    → newest ≡ get_or log i newest → IsLegal format (acts_of (take i log))
    → IsFirstBroken format (conditions_of (act_of newest)) (acts_of (take i log)) (act_of newest) broken → IsFirstIllegal format log newest.lsn broken
first_illegal format log i newest broken inside is legal breaks =
    record {
      prefix = take i log;
      first = newest;
      rest = drop (i + 1) log;
      log_is = split_at log i newest inside is;
      lsn_is = refl;
      legal = legal;
      illegal = first_refused format (act_of newest) (acts_of (take i log)) broken breaks;
      breaks = breaks;
    }
