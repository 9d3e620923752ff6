-- What of a record, and of what is pending, the audit looks at.
use Rattle.std.specs.Prelude.{◌≡◌, ℕ, ◌<◌, List, [], ◌∷◌, length, reverse, Option, Some, None}
use Rattle.std.specs.List.{remove}
use Rattle.rm_types.specs.declared.formats.Format.{Format}
use Rattle.rm_types.specs.declared.places.Place.{Place}
use Rattle.rm_history.specs.Acts.{Act, Change, History, changes, undoes, enters, commits, ends, marks}
use Rattle.rm_history.specs.Pending.{of_txn, without_newest}
use Rattle.rm_history.specs.Needs.{on_page, need_for}
use Rattle.rm_history.specs.Rules.{IsIn}
use Rattle.rm_history.specs.Legal.{FollowsOn}

-- the change that a record makes, if it makes one forward
abbrev pub change_in : Act → Option Change
change_in (changes c) = Some c
change_in (undoes u) = None
change_in (enters e) = None
change_in (commits f) = None
change_in (ends f) = None
change_in (marks m) = None

-- the page whose slot a record sets, if it sets one
abbrev pub page_in : Act → Option ℕ
page_in (changes c) = Some c.rid.page
page_in (undoes u) = Some u.rid.page
page_in (enters e) = None
page_in (commits f) = None
page_in (ends f) = None
page_in (marks m) = None

-- in a list of changes, the oldest first, the newest of a transaction stands here, if it has one
abbrev pub IsNewestOf : ℕ → List Change → Option ℕ → Type 0
IsNewestOf txn oldest None = without_newest (reverse oldest) txn ≡ reverse oldest
IsNewestOf txn oldest (Some at) = (at < length oldest) × (without_newest (reverse oldest) txn ≡ reverse (remove oldest at))

-- the bytes that a transaction's undo may need on a page, where these changes are all that is pending, the newest first
abbrev pub need_in : List Change → ℕ → ℕ → ℕ
need_in pending page txn = need_for (on_page page (of_txn txn pending))

-- the newest of these changes is of the transaction
abbrev pub IsLed : ℕ → List Change → Type 0
IsLed txn [] = ⊥
IsLed txn (newest ∷ before) = newest.txn ≡ txn

-- one of the places has the number
abbrev pub IsNamed : List Place → ℕ → Type 0
IsNamed places number = (place : Place) × IsIn places place × (place.number ≡ number)

-- each page of these changes follows
abbrev pub EachFollows : Format → History → List Change → Type 0
EachFollows start history [] = Unit {0}
EachFollows start history (newest ∷ before) = FollowsOn start history newest.rid.page × EachFollows start history before

-- of these changes one on the page is of this transaction, or none is on the page
abbrev pub IsSomeOn : ℕ → List Change → Option ℕ → Type 0
IsSomeOn page pending None = on_page page pending ≡ []
IsSomeOn page pending (Some txn) = on_page page (of_txn txn pending) ≡ [] → ⊥
