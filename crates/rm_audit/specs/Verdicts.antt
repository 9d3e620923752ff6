-- The order in which the conditions of a legal log are looked at, and which one a record breaks first.
use Rattle.std.specs.Prelude.{◌≡◌, List, [], ◌∷◌, ◌++◌, Option, MatchOption, ◌⊎◌}
use Rattle.rm_types.specs.declared.formats.Format.{Format}
use Rattle.rm_types.specs.declared.numbers.Lsn.{Lsn}
use Rattle.rm_record.specs.declared.records.Logged.{Logged}
use Rattle.rm_history.specs.Acts.{Act, Mark, History, lists, changes, undoes, enters, commits, ends, marks, act_of, acts_of}
use Rattle.rm_history.specs.Legal.{IsLegal}
use Rattle.rm_audit.specs.declared.verdicts.Illegal.{Illegal}
use Rattle.rm_audit.specs.declared.verdicts.Illegal.TheVariants as why
use Rattle.rm_audit.specs.Breaks.{Breaks}

-- those of what may come: of a record of no transaction
abbrev pub marking_of : Mark → List Illegal
marking_of (lists l) = why.NextId ∷ why.Forgotten ∷ why.TooMany ∷ why.LoserPlace ∷ []

-- and of any, by its kind
abbrev pub coming_of : Act → List Illegal
coming_of (changes c) = why.Finished ∷ why.NotHeld ∷ why.Others ∷ why.Under ∷ why.Need ∷ []
coming_of (undoes u) = why.Finished ∷ why.Undone ∷ why.Rid ∷ why.Next ∷ why.Back ∷ []
coming_of (enters e) = why.Finished ∷ why.NoChange ∷ []
coming_of (commits f) = why.Finished ∷ []
coming_of (ends f) = why.Finished ∷ why.StillPending ∷ []
coming_of (marks m) = marking_of m

-- those of what it asks of the inventory
abbrev pub entering_of : Act → List Illegal
entering_of (changes c) = []
entering_of (undoes u) = why.Entry ∷ []
entering_of (enters e) = why.SameCategory ∷ why.WrongCategory ∷ []
entering_of (commits f) = []
entering_of (ends f) = []
entering_of (marks m) = []

-- all of a record's conditions
abbrev pub conditions_of : Act → List Illegal
conditions_of act = why.NotAbove ∷ coming_of act ++ (why.NoRoom ∷ entering_of act ++ why.EntryBehind ∷ [])

-- of these conditions this is the first that the record breaks
abbrev pub IsFirstBroken : Format → List Illegal → History → Act → Illegal → Type 0
IsFirstBroken start [] before act broken = ⊥
IsFirstBroken start (next ∷ rest) before act broken =
    ((next ≡ broken) × Breaks start next before act) ⊎ ((Breaks start next before act → ⊥) × IsFirstBroken start rest before act broken)

-- a record meets this rule, or breaks the condition that is found, which is the first of these
abbrev pub IsFound : Format → Type 0 → List Illegal → History → Act → Option Illegal → Type 0
IsFound start Rule conditions before act found = MatchOption found Rule (IsFirstBroken start conditions before act)

-- The record with this LSN is the first with which the log is not legal, and of its conditions it breaks this one first.
pub record IsFirstIllegal (start : Format) (log : List Logged) (lsn : Lsn) (broken : Illegal) : Type 0 where
  pub prefix : List Logged
  pub first : Logged
  pub rest : List Logged
  pub log_is : log ≡ prefix ++ first ∷ rest
  pub lsn_is : first.lsn ≡ lsn
  pub legal : IsLegal start (acts_of prefix)
  pub illegal : IsLegal start (act_of first ∷ acts_of prefix) → ⊥
  pub breaks : IsFirstBroken start (conditions_of (act_of first)) (acts_of prefix) (act_of first) broken
