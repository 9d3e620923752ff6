-- One note more.
use Rattle.std.proofs.Common.{if◌then◌else◌, ◌≡◌, inl, inr, ltb, length-take, length-take-le, ◌<◌, ◌≤◌, ℕ, ◌+◌, ◌||◌, Bool, true, false, List, [], ◌∷◌, ◌++◌, length, get_or, take, drop, refl, sym, ◌∙◌, ap, arith, length-append, length-drop}
use Rattle.std.proofs.lemmas.List.{nil_from_length, take_all, drop_all, take-append-le, drop-append-le, take_more}
use Rattle.std.proofs.lemmas.Bool.{cases_lt, le-ltb, lt-ltb, or_right}
use Rattle.rm_types.specs.declared.areas.Area.{Area}
use Rattle.rm_memory.specs.declared.notes.Put.{Put}
use Rattle.rm_memory.specs.declared.notes.Note.{Note}
use Rattle.rm_memory.specs.declared.notes.Note.TheVariants.{Wrote, Synced}
use Rattle.rm_outside.specs.Areas.{is_same}
use Rattle.rm_outside.specs.Images.{Image}
use Rattle.rm_outside.specs.History.{Event, Write, Sync, content}
use Rattle.rm_memory.specs.Notes.{events_onto, history, total, synced_in}

events_wrote : (done : List Event) (notes : List Note) (put : Put) (old new : List ℕ) → total notes ≡ length old → put.len ≡ length new
    → events_onto done (notes ++ Wrote put ∷ []) (old ++ new) ≡ Write put.area put.at new put.took ∷ events_onto done notes old
unfolding events_onto total
events_wrote done [] put old new counted long =
    let empty : old ≡ [] = nil_from_length old (sym counted) in
    ap (λ (b : List ℕ). Write put.area put.at (take put.len (b ++ new)) put.took ∷ done) empty ∙ ap (λ (b : List ℕ). Write put.area put.at b put.took ∷ done) (take_all put.len new (omega arith))
events_wrote done (Wrote first ∷ notes) put old new counted long =
    let fits : first.len ≤ length old = omega arith in
    let rest : total notes ≡ length (drop first.len old) = omega (arith, length-drop first.len old) in
    ap (λ (b : List ℕ). events_onto (Write first.area first.at b first.took ∷ done) (notes ++ Wrote put ∷ []) (drop first.len (old ++ new))) (take-append-le first.len old new fits)
    ∙ ap (λ (b : List ℕ). events_onto (Write first.area first.at (take first.len old) first.took ∷ done) (notes ++ Wrote put ∷ []) b) (drop-append-le first.len old new fits)
    ∙ events_wrote (Write first.area first.at (take first.len old) first.took ∷ done) notes put (drop first.len old) new rest long
events_wrote done (Synced area ∷ notes) put old new counted long = events_wrote (Sync area ∷ done) notes put old new counted long

events_synced : (done : List Event) (notes : List Note) (area : Area) (bytes : List ℕ) → events_onto done (notes ++ Synced area ∷ []) bytes ≡ Sync area ∷ events_onto done notes bytes
unfolding events_onto
events_synced done [] area bytes = refl
events_synced done (Wrote first ∷ notes) area bytes = events_synced (Write first.area first.at (take first.len bytes) first.took ∷ done) notes area (drop first.len bytes)
events_synced done (Synced other ∷ notes) area bytes = events_synced (Sync other ∷ done) notes area bytes

pub history-wrote : (notes : List Note) (put : Put) (old new : List ℕ) → total notes ≡ length old → put.len ≡ length new → history (notes ++ Wrote put ∷ []) (old ++ new) ≡ Write put.area put.at new put.took ∷ history notes old
history-wrote notes put old new counted long = events_wrote [] notes put old new counted long

pub history-synced : (notes : List Note) (area : Area) (bytes : List ℕ) → history (notes ++ Synced area ∷ []) bytes ≡ Sync area ∷ history notes bytes
history-synced notes area bytes = events_synced [] notes area bytes

pub total-append : (a b : List Note) → total (a ++ b) ≡ total a + total b
unfolding total
total-append [] b = omega arith
total-append (Wrote put ∷ a) b = omega (arith, total-append a b)
total-append (Synced area ∷ a) b = total-append a b

pub total_wrote : (notes : List Note) (put : Put) → total (notes ++ Wrote put ∷ []) ≡ total notes + put.len
unfolding total
total_wrote notes put = omega (arith, total-append notes (Wrote put ∷ []))

pub total_synced : (notes : List Note) (area : Area) → total (notes ++ Synced area ∷ []) ≡ total notes
unfolding total
total_synced notes area = omega (arith, total-append notes (Synced area ∷ []))

pub synced_in-append : (a b : List Note) (area : Area) → synced_in (a ++ b) area ≡ (synced_in a area || synced_in b area)
unfolding synced_in
synced_in-append [] b area = refl
synced_in-append (Wrote put ∷ a) b area = synced_in-append a b area
synced_in-append (Synced other ∷ a) b area = elim (is_same other area) as (λ v. (v || synced_in (a ++ b) area) ≡ ((v || synced_in a area) || synced_in b area)) [
  | true ↦ refl
  | false ↦ synced_in-append a b area
]

pub synced_in-nil : (area : Area) → synced_in [] area ≡ false
unfolding synced_in
synced_in-nil area = refl

-- the syncs of one note more
sync_step-within : (notes : List Note) (index end from : ℕ) (note : Note) (area : Area) (is_sync : Bool) → index < length notes → note ≡ get_or notes index note → synced_in (note ∷ []) area ≡ is_sync
    → from ≤ index → synced_in (drop from (take index notes)) area ≡ ltb from end → synced_in (drop from (take (index + 1) notes)) area ≡ (ltb from end || is_sync)
sync_step-within notes index end from note area is_sync inside read told before so_far =
    let more : take (index + 1) notes ≡ take index notes ++ note ∷ [] = take_more notes index note inside ∙ ap (λ (n : Note). take index notes ++ n ∷ []) (sym read) in
    let long : from ≤ length (take index notes) = omega (arith, length-take-le index notes (omega arith)) in
    ap (λ (ns : List Note). synced_in (drop from ns) area) more
    ∙ ap (λ (ns : List Note). synced_in ns area) (drop-append-le from (take index notes) (note ∷ []) long)
    ∙ synced_in-append (drop from (take index notes)) (note ∷ []) area
    ∙ ap (λ (b : Bool). b || synced_in (note ∷ []) area) so_far
    ∙ ap (λ (b : Bool). ltb from end || b) told

sync_step-past : (notes : List Note) (index from : ℕ) (area : Area) → index < from → synced_in (drop from (take (index + 1) notes)) area ≡ false
sync_step-past notes index from area past =
    let short : length (take (index + 1) notes) ≤ from = simp length-take (omega arith) in
    ap (λ (ns : List Note). synced_in ns area) (drop_all from (take (index + 1) notes) short) ∙ synced_in-nil area

pub sync_step : (notes : List Note) (index end : ℕ) (note : Note) (area : Area) → index < length notes → note ≡ get_or notes index note → synced_in (note ∷ []) area ≡ true → end ≤ index
    → ((from : ℕ) → synced_in (drop from (take index notes)) area ≡ ltb from end) → (from : ℕ) → synced_in (drop from (take (index + 1) notes)) area ≡ ltb from (index + 1)
sync_step notes index end note area inside read told short so_far from = elim (cases_lt index from) [
  | inl past ↦ sync_step-past notes index from area past ∙ sym (le-ltb from (index + 1) (omega arith))
  | inr before ↦ sync_step-within notes index end from note area true inside read told before (so_far from) ∙ or_right (ltb from end) true refl ∙ sym (lt-ltb from (index + 1) (omega arith))
]

pub other_step : (notes : List Note) (index end : ℕ) (note : Note) (area : Area) → index < length notes → note ≡ get_or notes index note → synced_in (note ∷ []) area ≡ false → end ≤ index
    → ((from : ℕ) → synced_in (drop from (take index notes)) area ≡ ltb from end) → (from : ℕ) → synced_in (drop from (take (index + 1) notes)) area ≡ ltb from end
other_step notes index end note area inside read told short so_far from = elim (cases_lt index from) [
  | inl past ↦ sync_step-past notes index from area past ∙ sym (le-ltb from end (omega arith))
  | inr before ↦ sync_step-within notes index end from note area false inside read told before (so_far from) ∙ or_false (ltb from end)
]
  where
    or_false : (b : Bool) → (b || false) ≡ b
    or_false true = refl
    or_false false = refl

-- no notes
pub fresh_history : (notes : List Note) (bytes : List ℕ) → notes ≡ [] → history notes bytes ≡ []
unfolding events_onto
fresh_history notes bytes fresh = ap (λ (ns : List Note). events_onto [] ns bytes) fresh

pub fresh_total : (notes : List Note) (bytes : List ℕ) → notes ≡ [] → bytes ≡ [] → total notes ≡ length bytes
unfolding total
fresh_total notes bytes fresh empty = ap (λ (ns : List Note). total ns) fresh ∙ sym (ap (λ (bs : List ℕ). length bs) empty)

pub fresh_content : (base : Image) (notes : List Note) (bytes : List ℕ) → notes ≡ [] → content base (history notes bytes) ≡ base
unfolding content
fresh_content base notes bytes fresh = ap (λ (es : List Event). content base es) (fresh_history notes bytes fresh)

-- a sync that is noted, or is not where memory runs out
pub pushed_total : (pushed : Bool) (notes after : List Note) (area : Area) → after ≡ (if pushed then notes ++ Synced area ∷ [] else notes) → total after ≡ total notes
pushed_total true notes after area is = ap (λ (ns : List Note). total ns) is ∙ total_synced notes area
pushed_total false notes after area is = ap (λ (ns : List Note). total ns) is

pub pushed_content : (base : Image) (pushed : Bool) (notes after : List Note) (area : Area) (bytes : List ℕ) → after ≡ (if pushed then notes ++ Synced area ∷ [] else notes) → content base (history after bytes) ≡ content base (history notes bytes)
unfolding content
pushed_content base true notes after area bytes is = ap (λ (ns : List Note). content base (history ns bytes)) is ∙ ap (λ (es : List Event). content base es) (history-synced notes area bytes)
pushed_content base false notes after area bytes is = ap (λ (ns : List Note). content base (history ns bytes)) is

-- a write that is noted
pub noted_history : (put : Put) (notes kept after : List Note) (old new bytes : List ℕ) → total notes ≡ length old → put.len ≡ length new → kept ≡ notes → after ≡ kept ++ Wrote put ∷ [] → bytes ≡ old ++ new
    → history after bytes ≡ Write put.area put.at new put.took ∷ history notes old
noted_history put notes kept after old new bytes counted long same pushed extended =
    ap (λ (ns : List Note). history ns bytes) (pushed ∙ ap (λ (ns : List Note). ns ++ Wrote put ∷ []) same)
    ∙ ap (λ (bs : List ℕ). history (notes ++ Wrote put ∷ []) bs) extended
    ∙ history-wrote notes put old new counted long

pub noted_total : (put : Put) (notes kept after : List Note) (old new bytes : List ℕ) → total notes ≡ length old → put.len ≡ length new → kept ≡ notes → after ≡ kept ++ Wrote put ∷ [] → bytes ≡ old ++ new
    → total after ≡ length bytes
noted_total put notes kept after old new bytes counted long same pushed extended =
    let sum : total after ≡ total notes + put.len = ap (λ (ns : List Note). total ns) (pushed ∙ ap (λ (ns : List Note). ns ++ Wrote put ∷ []) same) ∙ total_wrote notes put in
    let len : length bytes ≡ length old + length new = ap (λ (bs : List ℕ). length bs) extended ∙ length-append old new in
    omega arith
