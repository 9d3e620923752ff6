-- Which histories are legal: those in order whose inventory was kept, each record in the format that is in force at it.
use Rattle.std.specs.Prelude.{◌≡◌, ℕ, [], ◌∷◌, ◌⊎◌}
use Rattle.rm_types.specs.declared.formats.Format.{Format}
use Rattle.rm_types.specs.declared.numbers.Rid.{Rid}
use Rattle.rm_types.specs.declared.slots.Slot.{Slot}
use Rattle.rm_model.specs.Pages.{set_slot}
use Rattle.rm_history.specs.Acts.{Act, Change, Entry, History, changes, undoes, enters, commits, ends, marks}
use Rattle.rm_model.specs.Categories.{category_of}
use Rattle.rm_history.specs.Contents.{page_of, format_after, entry_of}
use Rattle.rm_history.specs.Pending.{pending_of}
use Rattle.rm_history.specs.Needs.{on_page}
use Rattle.rm_history.specs.Rules.{IsLast, Follows}

-- the category of the row id's page with this in its slot
abbrev pub category_with : Format → History → Rid → Slot → ℕ
category_with start before rid slot = category_of (format_after start before) (set_slot (page_of before rid.page) rid.slot slot)

-- a page's entry changes, to the category of the page, or to what that is once the transaction's last pending change is undone
pub record IsEntry (start : Format) (before : History) (e : Entry) : Type 0 where
  pub differs : e.category ≡ entry_of before e.page → ⊥
  pub right : (e.category ≡ category_of (format_after start before) (page_of before e.page))
      ⊎ ((last : Change) × IsLast before e.txn last × (e.category ≡ category_with start before last.rid last.before))

-- What a record asks of the inventory: after an undo the page's entry is its category.
abbrev pub IsEntered : Format → History → Act → Type 0
IsEntered start before (changes c) = Unit {0}
IsEntered start before (undoes u) = entry_of before u.rid.page ≡ category_with start before u.rid u.back
IsEntered start before (enters e) = IsEntry start before e
IsEntered start before (commits f) = Unit {0}
IsEntered start before (ends f) = Unit {0}
IsEntered start before (marks m) = Unit {0}

-- some transaction has a pending change on the page
abbrev pub IsPendingOn : History → ℕ → Type 0
IsPendingOn history page = (txn : ℕ) × (on_page page (pending_of history txn) ≡ [] → ⊥)

-- a page's entry is its category, or it has a pending change
abbrev pub FollowsOn : Format → History → ℕ → Type 0
FollowsOn start history page = (entry_of history page ≡ category_of (format_after start history) (page_of history page)) ⊎ IsPendingOn history page

-- so it is with each page
abbrev pub EntriesFollow : Format → History → Type 0
EntriesFollow start history = (page : ℕ) → FollowsOn start history page

-- the record meets what it asks of the inventory, and after it the entries follow
pub record IsKept (start : Format) (before : History) (act : Act) : Type 0 where
  pub entered : IsEntered start before act
  pub follow : EntriesFollow start (act ∷ before)

-- Each record might stand where it does, and the inventory was kept, in a log that begins in this format.
abbrev pub IsLegal : Format → History → Type 0
IsLegal start [] = Unit {0}
IsLegal start (act ∷ before) = IsLegal start before × Follows before act × IsKept start before act
