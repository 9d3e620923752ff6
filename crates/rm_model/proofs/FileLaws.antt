-- The rows of a file of pages in memory, and what setting one changes.
use Rattle.std.proofs.Common.{◌≡◌, ℕ, ◌<◌, ◌==◌, true, false, List, [], length, None, inl, inr, sym, ap, ◌∙◌, arith, refl, get_or, set, eq-eqb, ne_eqb, get_or-set_same, get_or-set_other}
use Rattle.std.proofs.lemmas.Bool.{cases_eq}
use Rattle.std.proofs.lemmas.List.{length-map, map-set, get_or-map}
use Rattle.rm_types.specs.declared.numbers.Rid.{Rid}
use Rattle.rm_types.specs.declared.numbers.Lsn.{Lsn}
use Rattle.rm_types.specs.declared.slots.Slot.{Slot}
use Rattle.rm_types.specs.declared.slots.Slot.TheVariants.{Row}
use Rattle.rm_model.specs.Pages.{PageValue, set_slot}
use Rattle.rm_model.specs.Object.{with_row}
use Rattle.rm_model.specs.Files.{slots_of, page_at, rows_of, set_row}
use Rattle.rm_model.proofs.Slots.{row_at-set_slot, row_at_past}

-- A row set in a page of the file is one more row.
rows_at-set_row : (pages : List (List Slot)) (rid place : Rid) (row : List ℕ) → rid.page < length pages → rows_of (set_row pages rid row) place ≡ with_row (rows_of pages) rid row place
rows_at-set_row pages rid place row in_file =
    let slots : List Slot = page_at pages rid.page in
    elim (cases_eq place.page rid.page) [
      | inl same ↦
          let test : (place.page == rid.page) ≡ true = eq-eqb place.page rid.page same in
          rw (test, same, get_or-set_same pages rid.page (set_slot slots rid.slot (Row row)) [] in_file) (row_at-set_slot slots rid.slot place.slot (Row row))
      | inr other ↦
          let test : (place.page == rid.page) ≡ false = ne_eqb place.page rid.page other in
          rw (test, get_or-set_other pages rid.page place.page (set_slot slots rid.slot (Row row)) [] other) refl
    ]

pub rows_of-set_row : (pages : List (List Slot)) (rid : Rid) (row : List ℕ) → rid.page < length pages → rows_of (set_row pages rid row) ≡ with_row (rows_of pages) rid row
rows_of-set_row pages rid row in_file = λ i place. rows_at-set_row pages rid place row in_file i

-- past the directory of a page no row stands
pub no_row_past : (pages : List (List Slot)) (rid : Rid) → rid.slot ≡ length (page_at pages rid.page) → rows_of pages rid ≡ None
no_row_past pages rid past = row_at_past (page_at pages rid.page) rid.slot (omega arith)

pub length-slots_of : (pages : List PageValue) → length (slots_of pages) ≡ length pages
length-slots_of pages = length-map pages (λ page. page.slots)

-- the slots of the page with a number
pub page_at-slots_of : (pages : List PageValue) (number : ℕ) (page : PageValue) → number < length pages → page_at (slots_of pages) number ≡ (get_or pages number page).slots
page_at-slots_of pages number page inside = get_or-map (λ page. page.slots) pages number page [] inside

pub slots_of-set : (pages : List PageValue) (number : ℕ) (page : PageValue) → slots_of (set pages number page) ≡ set (slots_of pages) number page.slots
slots_of-set pages number page = map-set (λ page. page.slots) pages number page

-- a page with a row set, in its place
pub set_row_is : (pages : List PageValue) (page new : PageValue) (rid : Rid) (row : List ℕ) (lsn : Lsn) → rid.page < length pages
    → new ≡ record { lsn = lsn; slots = set_slot (get_or pages rid.page page).slots rid.slot (Row row) } → slots_of (set pages rid.page new) ≡ set_row (slots_of pages) rid row
set_row_is pages page new rid row lsn inside made =
    let slots : (get_or pages rid.page page).slots ≡ page_at (slots_of pages) rid.page = sym (page_at-slots_of pages rid.page page inside) in
    slots_of-set pages rid.page new
    ∙ ap (λ (p : PageValue). set (slots_of pages) rid.page p.slots) made
    ∙ ap (λ (s : List Slot). set (slots_of pages) rid.page (set_slot s rid.slot (Row row))) slots
