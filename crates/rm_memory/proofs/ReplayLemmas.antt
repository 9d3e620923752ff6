-- The notes one by one, oldest first, beside the events newest first.
use Rattle.std.proofs.Common.{◌≡◌, ◌<◌, ◌≤◌, ℕ, ◌+◌, Bool, if◌then◌else◌, List, [], ◌∷◌, ◌++◌, length, get_or, take, drop, refl, sym, ◌∙◌, ap, arith, length-take-le}
use Rattle.std.proofs.Math.Seq.{take-add}
use Rattle.std.proofs.lemmas.List.{take_more, drop_more, take_all, drop_all, length-drop, take-append-drop}
use Rattle.rm_types.specs.declared.areas.Area.{Area}
use Rattle.rm_outside.specs.Images.{Image}
use Rattle.rm_memory.specs.declared.notes.Put.{Put}
use Rattle.rm_memory.specs.declared.notes.Note.{Note}
use Rattle.rm_memory.specs.declared.notes.Note.TheVariants.{Wrote, Synced}
use Rattle.rm_outside.specs.History.{Event, Write, Sync}
use Rattle.rm_memory.specs.Crashes.{none, with_area, unsynced, applies, fills, after_write, left}
use Rattle.rm_memory.specs.Notes.{events_onto, history, total, synced_in}
use Rattle.rm_memory.proofs.NoteLemmas.{total-append, total_wrote, total_synced, noted_history, history-synced}

-- the next note
next : (notes : List Note) (index : ℕ) (note known : Note) → index < length notes → note ≡ get_or notes index note → note ≡ known → take (index + 1) notes ≡ take index notes ++ known ∷ []
next notes index note known inside read is = take_more notes index note inside ∙ ap (λ (n : Note). take index notes ++ n ∷ []) (sym read ∙ is)

rest : (notes : List Note) (index : ℕ) (note known : Note) → index < length notes → note ≡ get_or notes index note → note ≡ known → drop index notes ≡ known ∷ drop (index + 1) notes
rest notes index note known inside read is = drop_more notes index note inside ∙ ap (λ (n : Note). n ∷ drop (index + 1) notes) (sym read ∙ is)

total-take : (n : ℕ) (notes : List Note) → total (take n notes) ≤ total notes
total-take n notes = let sum : total (take n notes) + total (drop n notes) ≡ total notes = sym (total-append (take n notes) (drop n notes)) ∙ ap (λ (ns : List Note). total ns) (take-append-drop n notes) in omega arith

-- a write
module _ (notes : List Note) (bytes : List ℕ) (index start : ℕ) (note : Note) (put : Put) (inside : index < length notes) (read : note ≡ get_or notes index note) (is : note ≡ Wrote put) (at_start : start ≡ total (take index notes)) (counted : total notes ≡ length bytes) where
  pub total_next : start + put.len ≡ total (take (index + 1) notes)
  total_next = omega (arith, ap (λ (ns : List Note). total ns) (next notes index note (Wrote put) inside read is), total_wrote (take index notes) put)

  pub piece_fits : start + put.len ≤ length bytes
  piece_fits = omega (arith, total_next, total-take (index + 1) notes)

  pub history_next : history (take (index + 1) notes) (take (start + put.len) bytes) ≡ Write put.area put.at (take put.len (drop start bytes)) put.took ∷ history (take index notes) (take start bytes)
  history_next =
      let fits : start + put.len ≤ length bytes = piece_fits in
      let old : total (take index notes) ≡ length (take start bytes) = sym at_start ∙ sym (length-take-le start bytes (omega arith)) in
      let left_over : put.len ≤ length (drop start bytes) = omega (arith, length-drop start bytes) in
      let new : put.len ≡ length (take put.len (drop start bytes)) = sym (length-take-le put.len (drop start bytes) left_over) in
      noted_history put (take index notes) (take index notes) (take (index + 1) notes) (take start bytes) (take put.len (drop start bytes)) (take (start + put.len) bytes) old new refl (next notes index note (Wrote put) inside read is) (take-add start put.len bytes)

  pub later_next : synced_in (drop index notes) ≡ synced_in (drop (index + 1) notes)
  unfolding synced_in
  later_next = ap (λ (ns : List Note). synced_in ns) (rest notes index note (Wrote put) inside read is)

  pub unsynced_next : unsynced (history (take index notes) (take start bytes)) (synced_in (drop index notes)) + (if synced_in (drop index notes) put.area then 0 else 1)
      ≡ unsynced (history (take (index + 1) notes) (take (start + put.len) bytes)) (synced_in (drop (index + 1) notes))
  unfolding unsynced
  unsynced_next =
      ap (λ (later : Area → Bool). unsynced (Write put.area put.at (take put.len (drop start bytes)) put.took ∷ history (take index notes) (take start bytes)) later) later_next
      ∙ ap (λ (es : List Event). unsynced es (synced_in (drop (index + 1) notes))) (sym history_next)

  pub left_next : (outcome : ℕ) (base : Image)
      → after_write (applies outcome (unsynced (history (take index notes) (take start bytes)) (synced_in (drop index notes))) (synced_in (drop index notes) put.area) put.took) (fills outcome (synced_in (drop index notes) put.area) put.area) (left outcome base (history (take index notes) (take start bytes)) (synced_in (drop index notes))) put.area put.at (take put.len (drop start bytes))
      ≡ left outcome base (history (take (index + 1) notes) (take (start + put.len) bytes)) (synced_in (drop (index + 1) notes))
  unfolding left
  left_next outcome base =
      ap (λ (later : Area → Bool). left outcome base (Write put.area put.at (take put.len (drop start bytes)) put.took ∷ history (take index notes) (take start bytes)) later) later_next
      ∙ ap (λ (es : List Event). left outcome base es (synced_in (drop (index + 1) notes))) (sym history_next)

  pub image_next : (outcome number : ℕ) (base old new : Image) (synced : Bool) (piece : List ℕ) → number ≡ unsynced (history (take index notes) (take start bytes)) (synced_in (drop index notes)) → synced_in (drop index notes) put.area ≡ synced
      → old ≡ left outcome base (history (take index notes) (take start bytes)) (synced_in (drop index notes)) → piece ≡ take put.len (drop start bytes)
      → new ≡ after_write (applies outcome number synced put.took) (fills outcome synced put.area) old put.area put.at piece
      → new ≡ left outcome base (history (take (index + 1) notes) (take (start + put.len) bytes)) (synced_in (drop (index + 1) notes))
  image_next outcome number base old new synced piece counted told so_far cut left_so =
      left_so
      ∙ ap (λ (n : ℕ). after_write (applies outcome n synced put.took) (fills outcome synced put.area) old put.area put.at piece) counted
      ∙ ap (λ (b : Bool). after_write (applies outcome (unsynced (history (take index notes) (take start bytes)) (synced_in (drop index notes))) b put.took) (fills outcome b put.area) old put.area put.at piece) (sym told)
      ∙ ap (λ (i : Image). after_write (applies outcome (unsynced (history (take index notes) (take start bytes)) (synced_in (drop index notes))) (synced_in (drop index notes) put.area) put.took) (fills outcome (synced_in (drop index notes) put.area) put.area) i put.area put.at piece) so_far
      ∙ ap (λ (b : List ℕ). after_write (applies outcome (unsynced (history (take index notes) (take start bytes)) (synced_in (drop index notes))) (synced_in (drop index notes) put.area) put.took) (fills outcome (synced_in (drop index notes) put.area) put.area) (left outcome base (history (take index notes) (take start bytes)) (synced_in (drop index notes))) put.area put.at b) cut
      ∙ left_next outcome base

  pub number_next : (number more : ℕ) (synced : Bool) → number ≡ unsynced (history (take index notes) (take start bytes)) (synced_in (drop index notes)) → synced_in (drop index notes) put.area ≡ synced → more ≡ (if synced then 0 else 1)
      → number + more ≡ unsynced (history (take (index + 1) notes) (take (start + put.len) bytes)) (synced_in (drop (index + 1) notes))
  number_next number more synced counted told one =
      ap (λ (n : ℕ). n + more) counted
      ∙ ap (λ (m : ℕ). unsynced (history (take index notes) (take start bytes)) (synced_in (drop index notes)) + m) (one ∙ ap (λ (b : Bool). if b then 0 else 1) (sym told))
      ∙ unsynced_next

-- a sync
module _ (notes : List Note) (bytes : List ℕ) (index start : ℕ) (note : Note) (area : Area) (inside : index < length notes) (read : note ≡ get_or notes index note) (is : note ≡ Synced area) where
  pub total_sync : total (take index notes) ≡ total (take (index + 1) notes)
  total_sync = sym (ap (λ (ns : List Note). total ns) (next notes index note (Synced area) inside read is) ∙ total_synced (take index notes) area)

  history_sync : history (take (index + 1) notes) (take start bytes) ≡ Sync area ∷ history (take index notes) (take start bytes)
  history_sync = ap (λ (ns : List Note). history ns (take start bytes)) (next notes index note (Synced area) inside read is) ∙ history-synced (take index notes) area (take start bytes)

  later_sync : synced_in (drop index notes) ≡ with_area (synced_in (drop (index + 1) notes)) area
  unfolding synced_in
  later_sync = ap (λ (ns : List Note). synced_in ns) (rest notes index note (Synced area) inside read is)

  pub unsynced_sync : unsynced (history (take index notes) (take start bytes)) (synced_in (drop index notes)) ≡ unsynced (history (take (index + 1) notes) (take start bytes)) (synced_in (drop (index + 1) notes))
  unfolding unsynced
  unsynced_sync =
      ap (λ (later : Area → Bool). unsynced (history (take index notes) (take start bytes)) later) later_sync
      ∙ ap (λ (es : List Event). unsynced es (synced_in (drop (index + 1) notes))) (sym history_sync)

  pub left_sync : (outcome : ℕ) (base : Image) → left outcome base (history (take index notes) (take start bytes)) (synced_in (drop index notes)) ≡ left outcome base (history (take (index + 1) notes) (take start bytes)) (synced_in (drop (index + 1) notes))
  unfolding left
  left_sync outcome base =
      ap (λ (later : Area → Bool). left outcome base (history (take index notes) (take start bytes)) later) later_sync
      ∙ ap (λ (es : List Event). left outcome base es (synced_in (drop (index + 1) notes))) (sym history_sync)

-- before the first note and after the last
pub total_none : 0 ≡ total []
unfolding total
total_none = refl

pub unsynced_none : (later : Area → Bool) → 0 ≡ unsynced (history [] []) later
unfolding unsynced events_onto
unsynced_none later = refl

pub left_none : (outcome : ℕ) (base : Image) (later : Area → Bool) → base ≡ left outcome base (history [] []) later
unfolding left events_onto
left_none outcome base later = refl

pub left_all : (outcome : ℕ) (base : Image) (notes : List Note) (bytes : List ℕ) (index start : ℕ) → length notes ≤ index → start ≡ total (take index notes) → total notes ≡ length bytes
    → left outcome base (history (take index notes) (take start bytes)) (synced_in (drop index notes)) ≡ left outcome base (history notes bytes) none
unfolding synced_in
left_all outcome base notes bytes index start past at_start counted =
    let whole : take index notes ≡ notes = take_all index notes past in
    let end : length bytes ≤ start = omega (arith, ap (λ (ns : List Note). total ns) whole) in
    ap (λ (ns : List Note). left outcome base (history (take index notes) (take start bytes)) (synced_in ns)) (drop_all index notes past)
    ∙ ap (λ (ns : List Note). left outcome base (history ns (take start bytes)) none) whole
    ∙ ap (λ (bs : List ℕ). left outcome base (history notes bs) none) (take_all start bytes end)
