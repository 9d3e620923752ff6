-- The row locks, and the latches that stages hold.
use Rattle.std.specs.Prelude.{◌≡◌, ℕ, ◌≤◌, ◌<◌, IsTrue, ◌==◌, ◌&&◌, if◌then◌else◌, Bool, true, false, List, [], ◌∷◌, ◌⊎◌}
use Rattle.rm_core.specs.Below.{Rid, MAX_SLOT, is_same_place, Op}
use Rattle.rm_core.specs.State.{Stage, tries, fetches, sets, settles, prepares, compensates, Grant}
use Rattle.rm_events.specs.declared.operations.Op.TheVariants as ops

-- the transaction has a lock on the row id; an exclusive one
abbrev pub HasGrant : List Grant → ℕ → Rid → Type 0
HasGrant [] txn rid = ⊥
HasGrant (first ∷ grants) txn rid = ((first.txn ≡ txn) × (first.rid ≡ rid)) ⊎ HasGrant grants txn rid

abbrev pub HoldsAlone : List Grant → ℕ → Rid → Type 0
HoldsAlone [] txn rid = ⊥
HoldsAlone (first ∷ grants) txn rid = ((first.txn ≡ txn) × (first.rid ≡ rid) × IsTrue first.alone) ⊎ HoldsAlone grants txn rid

-- the locks with one more, where it is not there
abbrev pub is_same : Bool → Bool → Bool
is_same true other = other
is_same false other = if other then false else true

abbrev pub is_grant : Grant → Grant → Bool
is_grant a b = (a.txn == b.txn) && (is_same_place a.rid b.rid && is_same a.alone b.alone)

abbrev pub has_it : List Grant → Grant → Bool
has_it [] grant = false
has_it (first ∷ grants) grant = if is_grant first grant then true else has_it grants grant

abbrev pub joined : List Grant → Grant → List Grant
joined grants grant = if has_it grants grant then grants else grant ∷ grants

-- the locks but those of a transaction
abbrev pub released : List Grant → ℕ → List Grant
released [] txn = []
released (first ∷ grants) txn = if first.txn == txn then released grants txn else first ∷ released grants txn

-- the other's locks refuse one on the row id, exclusive or not
abbrev pub Blocks : List Grant → ℕ → Rid → Bool → Type 0
Blocks grants other rid true = HasGrant grants other rid
Blocks grants other rid false = HoldsAlone grants other rid

-- the row id is of a place of the file
abbrev pub IsInside : ℕ → Rid → Type 0
IsInside pages rid = (rid.page < pages) × (rid.slot ≤ MAX_SLOT)

-- the lock that an operation asks for
abbrev pub Asks : Op → Rid → Bool → Type 0
Asks (ops.Read place) rid alone = (place ≡ rid) × (alone ≡ false)
Asks (ops.Update place row) rid alone = (place ≡ rid) × (alone ≡ true)
Asks (ops.Delete place) rid alone = (place ≡ rid) × (alone ≡ true)
Asks other rid alone = ⊥

-- the page that a session at this stage has latched alone, and shared
abbrev pub Latches : Stage → ℕ → Type 0
Latches (tries row on) page = on ≡ page
Latches (sets rid slot) page = rid.page ≡ page
Latches (settles outcome on) page = on ≡ page
Latches (prepares aim on) page = on ≡ page
Latches (compensates aim on) page = on ≡ page
Latches other page = ⊥

abbrev pub Looks : Stage → ℕ → Type 0
Looks (fetches rid) page = rid.page ≡ page
Looks other page = ⊥
