-- Reading from left to right: a field is a value and the bytes after it, or none.
use Rattle.std.specs.Prelude.{◌≡◌, ℕ, zero, suc, ◌+◌, ◌-◌, ◌^◌, List, [], ◌∷◌, length, take, drop, Bool, Option, Some, None}
use Rattle.std.specs.Prelude.{Result, Ok, Err, nat_lt, nat_le, ◌==◌, if◌then◌else◌}
use Rattle.std.specs.Int.{Width, w16, w32, w64, byte_len, from_be_bytes}
use Rattle.rm_types.specs.declared.numbers.TxnId.{TxnId}
use Rattle.rm_types.specs.declared.numbers.Lsn.{Lsn}
use Rattle.rm_types.specs.declared.numbers.Rid.{Rid}
use Rattle.rm_types.specs.declared.numbers.TheConstants.{MAX_PAGES, MAX_SLOT}
use Rattle.rm_types.specs.declared.places.Place.{Place}
use Rattle.rm_types.specs.declared.rows.TheConstants.{MAX_ROW}
use Rattle.rm_types.specs.declared.slots.Slot.{Slot}
use Rattle.rm_types.specs.declared.slots.Slot.TheVariants as slot
use Rattle.rm_types.specs.declared.slots.TheConstants.{CAPACITY}
use Rattle.rm_record.specs.declared.fields.Change.{Change}
use Rattle.rm_record.specs.declared.records.TheConstants.{MAX_RECORDED_CATEGORY}
use Rattle.rm_record.specs.declared.refused.DecodeRefused.{DecodeRefused}
use Rattle.rm_record.specs.declared.refused.DecodeRefused.TheVariants as refused

-- a refusal says that nothing is read, unless memory ran out
abbrev pub Refuses : {Y : Type 0} → DecodeRefused → Option Y → Type 0
Refuses refused.Bad read = read ≡ None
Refuses refused.NoMemory read = Unit {0}

-- what a function returned, seen by view, is what is read, unless memory ran out
abbrev pub Gives : {X Y : Type 0} → (X → Y) → Result X DecodeRefused → Option Y → Type 0
Gives view (Ok x) read = read ≡ Some (view x)
Gives view (Err e) read = Refuses e read

-- ---- ways of reading, and what they are made of

abbrev pub Reads : Type 0 → Type 0
Reads A = List ℕ → Option (A × List ℕ)

infixl 10 ◌>>=◌
abbrev pub ◌>>=◌ : {A B : Type 0} → Option A → (A → Option B) → Option B
(Some x) >>= f = f x
None >>= f = None

-- only a value that passes
abbrev pub kept : {A : Type 0} → (A → Bool) → Reads A → Reads A
kept passes field bytes = do
  x ← field bytes
  if passes x.0 then Some x else None

-- a value made of what is read
abbrev pub made : {A B : Type 0} → (A → B) → Reads A → Reads B
made make field bytes = do
  x ← field bytes
  Some (make x.0, x.1)

-- one and then the other
abbrev pub both : {A B : Type 0} → Reads A → Reads B → Reads (A × B)
both first second bytes = do
  x ← first bytes
  y ← second x.1
  Some ((x.0, y.0), y.1)

-- ---- numbers

-- a byte
abbrev pub byte_field : Reads ℕ
byte_field [] = None
byte_field (byte ∷ rest) = Some (byte, rest)

-- a number of this width
abbrev pub number_field : Width → Reads ℕ
number_field w bytes = if nat_lt (length bytes) (byte_len w) then None else Some (from_be_bytes w (take (byte_len w) bytes), drop (byte_len w) bytes)

-- a number that is at most this
abbrev pub number_up_to : Width → ℕ → Reads ℕ
number_up_to w high bytes = kept (λ n. nat_le n high) (number_field w) bytes

-- a number from low on, that is at most high
abbrev pub number_between : Width → ℕ → ℕ → Reads ℕ
number_between w low high bytes = kept (λ n. nat_le low n) (number_up_to w high) bytes

-- ---- fields

-- a transaction's id
unfoldable pub txn_field : Reads TxnId
txn_field bytes = made (λ n. record { 0 = n }) (kept (λ n. nat_lt 0 n) (number_field w32)) bytes

-- an LSN
unfoldable pub lsn_field : Reads Lsn
lsn_field bytes = made (λ n. record { 0 = n }) (number_field w64) bytes

-- a page
unfoldable pub page_field : Reads ℕ
page_field bytes = number_up_to w32 (MAX_PAGES - 1) bytes

-- a row id
unfoldable pub rid_field : Reads Rid
rid_field bytes = made (λ n. record { page = n.0; slot = n.1 }) (both page_field (number_up_to w16 MAX_SLOT)) bytes

-- bytes reserved on a page
unfoldable pub need_field : Reads ℕ
need_field bytes = number_up_to w16 CAPACITY bytes

-- what each change begins with
unfoldable pub change_field : Reads Change
change_field bytes =
    made (λ (txn, (under, (rid, need))). record { txn = txn; under = under; rid = rid; need = need })
    (both txn_field (both lsn_field (both rid_field need_field))) bytes

-- a row
unfoldable pub row_field : Reads (List ℕ)
row_field bytes = do
  n ← number_up_to w16 MAX_ROW bytes
  if nat_lt (length n.1) n.0 then None else Some (take n.0 n.1, drop n.0 n.1)

-- what a slot holds
unfoldable pub slot_field : Reads Slot
slot_field [] = None
slot_field (form ∷ rest) = if form == 0 then Some (slot.Vacant, rest) else if form == 1 then made (λ row. slot.Row row) row_field rest else None

-- a page's category
unfoldable pub category_field : Reads ℕ
category_field bytes = kept (λ n. nat_le n MAX_RECORDED_CATEGORY) byte_field bytes

-- the next id of a transaction
unfoldable pub next_field : Reads ℕ
next_field bytes = number_between w64 1 (2 ^ 32) bytes

-- ---- places

-- a place whose number is from low on, and at most high
unfoldable pub place_field : ℕ → ℕ → Reads Place
place_field low high bytes = made (λ n. record { number = n.0; at = n.1 }) (both (number_between w32 low high) (number_field w64)) bytes

-- this many places, each number being greater than the one before
abbrev pub entries_field : ℕ → ℕ → ℕ → Reads (List Place)
entries_field zero low high bytes = Some ([], bytes)
entries_field (suc n) low high bytes = do
  first ← place_field low high bytes
  more ← entries_field n (first.0.number + 1) high first.1
  Some (first.0 ∷ more.0, more.1)

-- places: how many, and that many of them
unfoldable pub places_field : ℕ → ℕ → Reads (List Place)
places_field low high bytes = do
  n ← number_field w16 bytes
  entries_field n.0 low high n.1
