-- The spellings of names and row ids.
use Rattle.std.specs.Prelude.{◌≡◌, ℕ, ◌+◌, ◌^◌, ◌<◌, List, [], ◌∷◌, ◌++◌, codes, decimal}
use Rattle.rm_types.specs.declared.numbers.Rid.{Rid}
use Rattle.rm_events.specs.declared.lines.Target.{Target}
use Rattle.rm_events.specs.declared.lines.Target.TheVariants as target

-- a dollar sign and a letter, `a` for the first name
abbrev pub name_text : ℕ → List ℕ
name_text name = 36 ∷ (97 + name) ∷ []

-- the page and the slot, with a dot between
abbrev pub place : Rid → List ℕ
place rid = decimal rid.page ++ codes "." ++ decimal rid.slot

-- the text spells the target
abbrev pub IsTarget : Target → List ℕ → Type 0
IsTarget (target.Name name) text = (name < 26) × (text ≡ name_text name)
IsTarget (target.At rid) text = (rid.page < 2 ^ 32) × (rid.slot < 2 ^ 16) × (text ≡ place rid)
