-- The pages in memory and the slots that they stand for, and what a reply from them says of a session.
use Rattle.std.proofs.Common.{◌≡◌, ℕ, ◌+◌, ◌<◌, List, length, get_or, set, refl, sym, ap, ◌∙◌, arith, Bool, true, false, IsTrue, inl, inr}
use Rattle.std.proofs.lemmas.Bool.{cases_lt, both_ways}
use Rattle.rm_types.specs.declared.numbers.Lsn.{Lsn}
use Rattle.rm_types.specs.declared.slots.Slot.{Slot}
use Rattle.rm_types.specs.declared.slots.Slot.TheVariants.{Row}
use Rattle.rm_types.specs.declared.slots.TheConstants.{CAPACITY, SLOT_ENTRY}
use Rattle.rm_types.specs.declared.operations.Op.TheVariants as op
use Rattle.rm_types.specs.declared.operations.Reply.{Reply}
use Rattle.rm_types.specs.declared.operations.Reply.TheVariants as reply
use Rattle.rm_model.specs.Pages.{PageValue, used, set_slot}
use Rattle.rm_model.specs.Files.{page_at, rows_of, slots_of}
use Rattle.rm_session.specs.Session.{HasRoom, LacksRoom, IsFirstWithRoom, Core}
use Rattle.rm_model.proofs.FileLaws.{rows_of-set_row, no_row_past, length-slots_of, page_at-slots_of, slots_of-set}
use Rattle.rm_session.specs.Answers.{Inserts, Draws}

-- the page lacks room that was tested and has none
pub lacks_room_at : (pages : List PageValue) (number len : ℕ) (page : PageValue) → number < length pages → page ≡ get_or pages number page → (has : Bool) → has ≡ false → (HasRoom page.slots len → IsTrue has) → LacksRoom (page_at (slots_of pages) number) len
lacks_room_at pages number len page inside is has none test =
    rw (page_at-slots_of pages number page inside, ← is)
    (elim (cases_lt CAPACITY (used page.slots + SLOT_ENTRY + len)) [
      | inl lacks ↦ lacks
      | inr room ↦ absurd (both_ways has none (test room))
    ])

-- a row set after the directory of the first page with room is inserted
pub insert_is : (pages : List PageValue) (page new : PageValue) (number slot : ℕ) (row : List ℕ) (lsn : Lsn) → IsFirstWithRoom (slots_of pages) (length row) number → slot ≡ length (get_or pages number page).slots → new ≡ record { lsn = lsn; slots = set_slot (get_or pages number page).slots slot (Row row) } → Inserts (slots_of pages) row (reply.Inserted (record { page = number; slot = slot })) (slots_of (set pages number new))
insert_is pages page new number slot row lsn first after made =
    let inside : number < length pages = omega (arith, first.in_file, length-slots_of pages) in
    let slots : page_at (slots_of pages) number ≡ (get_or pages number page).slots = page_at-slots_of pages number page inside in
    ((first, after ∙ ap (λ (found : List Slot). length found) (sym slots)), slots_of-set pages number new ∙ rw (made, slots) refl)

-- an insert's reply is drawn by a session in a transaction
pub inserts_draws : (old : Core) (pages : List (List Slot)) (row : List ℕ) (told : Reply) → old.active ≡ true → Inserts old.pages row told pages → Draws old (op.Insert row) told (record old { pages = pages })
inserts_draws old pages row (reply.Inserted rid) active inserted =
    record {
      object = (no_row_past old.pages rid inserted.0.1, ap rows_of inserted.1 ∙ rows_of-set_row old.pages rid row inserted.0.0.in_file);
      comes = (active, inserted.0, ap (λ (slots : List (List Slot)). record old { pages = slots }) inserted.1);
    }
inserts_draws old pages row reply.NoSpace active refused =
    record {
      object = ap rows_of refused.1;
      comes = (active, refused.0, ap (λ (slots : List (List Slot)). record old { pages = slots }) refused.1);
    }
inserts_draws old pages row other active none = absurd none
