-- Plain histories: those of inserts and commits alone. The program makes and reads no other records yet.
use Rattle.std.specs.Prelude.{◌≡◌, ℕ, List}
use Rattle.std.specs.List.{AllByRecursion}
use Rattle.rm_types.specs.declared.slots.Slot.TheVariants.{Vacant, Row}
use Rattle.rm_history.specs.Acts.{Act, Change, History, changes, undoes, enters, commits, ends, marks}

-- the change is an insert: the slot was vacant, and has a row
pub record IsInsert (c : Change) : Type 0 where
  pub row : List ℕ
  pub before_is : c.before ≡ Vacant
  pub after_is : c.after ≡ Row row

-- the record is an insert or a commit
abbrev pub IsPlain : Act → Type 0
IsPlain (changes c) = IsInsert c
IsPlain (undoes u) = ⊥
IsPlain (enters e) = ⊥
IsPlain (commits f) = Unit {0}
IsPlain (ends f) = ⊥
IsPlain (marks m) = ⊥

-- each record of the history is
abbrev pub ArePlain : History → Type 0
ArePlain history = AllByRecursion IsPlain history
