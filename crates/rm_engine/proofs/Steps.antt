-- How the history of a session goes on: a begin, an insert, a commit.
use Rattle.std.proofs.Common.{◌≡◌, inl, inr, ℕ, ◌+◌, ◌-◌, ◌<◌, ◌≤◌, Bool, true, false, cond, eqb, List, [], ◌∷◌, length, refl, sym, ap, subst, ◌∙◌, arith}
use Rattle.std.proofs.lemmas.Bool.{cases_eq, eqb-true, eqb-false, eq-eqb, ne_eqb, true≢false}
use Rattle.std.proofs.lemmas.List.{get_or_past}
use Rattle.std.proofs.Common.{get_or-set_same, get_or-set_other, length-set}
use Rattle.rm_types.specs.declared.numbers.Lsn.{Lsn}
use Rattle.rm_types.specs.declared.numbers.Rid.{Rid}
use Rattle.rm_types.specs.declared.numbers.TxnId.{TxnId}
use Rattle.rm_types.specs.declared.slots.Slot.{Slot}
use Rattle.rm_types.specs.declared.slots.Slot.TheVariants.{Vacant, Row}
use Rattle.rm_types.specs.declared.slots.TheConstants.{CAPACITY, SLOT_ENTRY}
use Rattle.rm_model.specs.Pages.{used, set_slot}
use Rattle.rm_model.specs.Object.{Rows, with_row}
use Rattle.rm_model.specs.Files.{page_at, rows_of, set_row}
use Rattle.rm_session.specs.Session.{IsPlaceFor, Core}
use Rattle.rm_model.proofs.Slots.{used-set_slot_end}
use Rattle.rm_model.proofs.FileLaws.{rows_of-set_row}
use Rattle.rm_record.specs.declared.records.LogRecord.TheVariants.{Insert, Commit}
use Rattle.rm_history.specs.Acts.{Change, History, changes, undoes, enters, commits, ends, marks, act_at, newest_lsn}
use Rattle.rm_history.specs.Contents.{page_of}
use Rattle.rm_history.specs.Pending.{pending_of, last_of}
use Rattle.rm_history.specs.Transactions.{greatest_txn, IsFinished}
use Rattle.rm_history.specs.Rows.{applied, rows_of_log}
use Rattle.rm_history.specs.Rules.{MayChange, IsInOrder}
use Rattle.rm_history.proofs.PendingLaws.{changed_inside}
use Rattle.rm_restart.specs.Plain.{ArePlain}
use Rattle.rm_restart.proofs.PlainLaws.{need_of-plain, page_fits, plain_fits}
use Rattle.rm_engine.specs.At.{IsOpen, IsAtHistory}

-- a finished transaction's id is at most the greatest
pub finished_greatest : (history : History) (id : ℕ) → IsFinished history id → id ≤ greatest_txn history
finished_greatest [] id finished = absurd finished
finished_greatest (changes c ∷ before) id finished = omega (arith, finished_greatest before id finished)
finished_greatest (undoes u ∷ before) id finished = omega (arith, finished_greatest before id finished)
finished_greatest (enters e ∷ before) id finished = omega (arith, finished_greatest before id finished)
finished_greatest (commits f ∷ before) id (inl now) = omega (arith, now)
finished_greatest (commits f ∷ before) id (inr earlier) = omega (arith, finished_greatest before id earlier)
finished_greatest (ends f ∷ before) id (inl now) = omega (arith, now)
finished_greatest (ends f ∷ before) id (inr earlier) = omega (arith, finished_greatest before id earlier)
finished_greatest (marks m ∷ before) id finished = finished_greatest before id finished

module _ (file_pages count : ℕ) (rows : Rows) (core : Core) (under inserts : ℕ) (history : History) (at : IsAtHistory file_pages count rows core under inserts history) where
  -- a transaction is begun
  pub begun : core.active ≡ false → IsAtHistory file_pages count rows (record core { next = core.next + 1; active = true }) 0 0 history
  begun idle =
      let quiet = at.idle idle in
      let id_is : (core.next + 1) - 1 ≡ core.next = omega arith in
      record {
        in_order = at.in_order;
        plain = at.plain;
        below = at.below;
        length_is = at.length_is;
        pages_are = at.pages_are;
        ids = omega (arith, at.ids);
        commits_are = at.commits_are;
        rows_are = at.rows_are;
        idle = λ active. absurd (true≢false active);
        busy = λ active. subst (λ (id : ℕ). IsOpen history id core.pages rows 0 0) (sym id_is) (record {
          unfinished = λ finished. omega (arith, at.ids, finished_greatest history core.next finished);
          others = λ other apart. quiet.none other;
          under_is = sym (ap last_of (quiet.none core.next));
          inserts_are = sym (ap (λ (changed : List Change). length changed) (quiet.none core.next));
          shown = quiet.shown ∙ sym (ap (applied rows) (quiet.none core.next));
        });
      }

  -- a row is put after the directory of a page with room
  module _ (lsn : ℕ) (txn : TxnId) (last : Lsn) (rid : Rid) (row : List ℕ) (active : core.active ≡ true) (place : IsPlaceFor core.pages (length row) rid)
      (txn_is : txn.0 ≡ core.next - 1) (last_is : last.0 ≡ under) (some_id : 1 ≤ core.next) (above : newest_lsn history < lsn) where
    abbrev change : Change
    change = record { lsn = lsn; txn = txn.0; under = last.0; rid = rid; need = 0; before = Vacant; after = Row row }

    open_now : IsOpen history (core.next - 1) core.pages rows under inserts
    open_now = at.busy active

    in_file : rid.page < length core.pages
    in_file = place.0.in_file

    page_is : page_at core.pages rid.page ≡ page_of history rid.page
    page_is = at.pages_are rid.page (omega (arith, in_file, at.length_is))

    slot_is : rid.slot ≡ length (page_of history rid.page)
    slot_is = place.1 ∙ ap (λ (slots : List Slot). length slots) page_is

    may : MayChange history change
    may = record {
      unfinished = subst (λ (id : ℕ). IsFinished history id → ⊥) (sym txn_is) open_now.unfinished;
      held = get_or_past (page_of history rid.page) rid.slot Vacant (omega (arith, slot_is));
      others = λ other apart changed. absurd (omega (arith, changed_inside history other rid changed, slot_is));
      under_is = last_is ∙ open_now.under_is ∙ ap (λ (id : ℕ). last_of (pending_of history id)) (sym txn_is);
      need_is = sym (need_of-plain history at.plain txn.0 rid.page);
    }

    fits_there : used (set_slot (page_of history rid.page) rid.slot (Row row)) ≤ CAPACITY
    fits_there =
        let room : used (page_of history rid.page) + SLOT_ENTRY + length row ≤ CAPACITY =
        subst (λ (slots : List Slot). used slots + SLOT_ENTRY + length row ≤ CAPACITY) page_is place.0.room in
        let here : used (set_slot (page_of history rid.page) rid.slot (Row row)) ≡ used (set_slot (page_of history rid.page) (length (page_of history rid.page)) (Row row)) =
        ap (λ (slot : ℕ). used (set_slot (page_of history rid.page) slot (Row row))) slot_is in
        omega (arith, here, used-set_slot_end (page_of history rid.page) (Row row), room)

    fits_now : (on : Bool) (page : ℕ) → on ≡ eqb rid.page page → used (cond on (set_slot (page_of history page) rid.slot (Row row)) (page_of history page)) ≤ CAPACITY
    fits_now true page is =
        let same : rid.page ≡ page = eqb-true rid.page page (sym is) in
        subst (λ (p : ℕ). used (set_slot (page_of history p) rid.slot (Row row)) ≤ CAPACITY) same fits_there
    fits_now false page is = page_fits history at.in_order page

    plain_now : ArePlain (changes change ∷ history)
    plain_now = (record { row = row; before_is = refl; after_is = refl }, at.plain)

    in_order_now : IsInOrder (changes change ∷ history)
    in_order_now = (
      at.in_order,
      record { above = above; may_come = may; fits = plain_fits (changes change ∷ history) plain_now (λ page. fits_now (eqb rid.page page) page refl) },
    )

    page_now : (page : ℕ) → page < file_pages → page_at (set_row core.pages rid row) page ≡ page_of (changes change ∷ history) page
    page_now page lt = elim (cases_eq rid.page page) [
      | inl same ↦
          let there : page_at (set_row core.pages rid row) page ≡ set_slot (page_at core.pages rid.page) rid.slot (Row row) =
          ap (page_at (set_row core.pages rid row)) (sym same) ∙ get_or-set_same core.pages rid.page (set_slot (page_at core.pages rid.page) rid.slot (Row row)) [] in_file in
          there ∙ ap (λ (slots : List Slot). set_slot slots rid.slot (Row row)) (page_is ∙ ap (page_of history) same)
          ∙ sym (ap (λ (on : Bool). cond on (set_slot (page_of history page) rid.slot (Row row)) (page_of history page)) (eq-eqb rid.page page same))
      | inr other ↦
          get_or-set_other core.pages rid.page page (set_slot (page_at core.pages rid.page) rid.slot (Row row)) [] (λ same. other (sym same))
          ∙ at.pages_are page lt
          ∙ sym (ap (λ (on : Bool). cond on (set_slot (page_of history page) rid.slot (Row row)) (page_of history page)) (ne_eqb rid.page page other))
    ]

    mine : pending_of (changes change ∷ history) (core.next - 1) ≡ change ∷ pending_of history (core.next - 1)
    mine = ap (λ (b : Bool). cond b (change ∷ pending_of history (core.next - 1)) (pending_of history (core.next - 1))) (eq-eqb txn.0 (core.next - 1) txn_is)

    open_after : IsOpen (changes change ∷ history) (core.next - 1) (set_row core.pages rid row) rows lsn (inserts + 1)
    open_after = record {
      unfinished = open_now.unfinished;
      others = λ other apart.
          ap (λ (b : Bool). cond b (change ∷ pending_of history other) (pending_of history other)) (ne_eqb txn.0 other (λ same. apart (sym same ∙ txn_is)))
          ∙ open_now.others other apart;
      under_is = sym (ap last_of mine);
      inserts_are = omega (arith, open_now.inserts_are, ap (λ (changed : List Change). length changed) mine);
      shown = rows_of-set_row core.pages rid row in_file ∙ ap (λ (shown : Rows). with_row shown rid row) open_now.shown ∙ sym (ap (applied rows) mine);
    }

    pub inserted : IsAtHistory file_pages count rows (record core { pages = set_row core.pages rid row }) lsn (inserts + 1) (act_at lsn (Insert txn last rid 0 row) ∷ history)
    inserted = record {
      in_order = in_order_now;
      plain = plain_now;
      below = (omega (arith, in_file, at.length_is), at.below);
      length_is = length-set core.pages rid.page (set_slot (page_at core.pages rid.page) rid.slot (Row row)) ∙ at.length_is;
      pages_are = page_now;
      ids = omega (arith, at.ids, txn_is);
      commits_are = at.commits_are;
      rows_are = at.rows_are;
      idle = λ idle. absurd (true≢false (sym active ∙ idle));
      busy = λ busy. open_after;
    }

  -- the transaction commits
  module _ (lsn : ℕ) (txn : TxnId) (active : core.active ≡ true) (txn_is : txn.0 ≡ core.next - 1) (some_id : 1 ≤ core.next) (above : newest_lsn history < lsn) where
    abbrev closed : History
    closed = act_at lsn (Commit txn) ∷ history

    none_left : (on : Bool) (id : ℕ) → on ≡ eqb txn.0 id → cond on [] (pending_of history id) ≡ []
    none_left true id is = refl
    none_left false id is = (at.busy active).others id (λ same. eqb-false txn.0 id (sym is) (txn_is ∙ sym same))

    pub committed : IsAtHistory file_pages (count + 1) (rows_of core.pages) (record core { active = false }) under inserts (act_at lsn (Commit txn) ∷ history)
    committed =
        let open_now = at.busy active in
        let rows_now : applied (rows_of_log history) (pending_of history txn.0) ≡ rows_of core.pages =
        ap (λ (base : Rows). applied base (pending_of history txn.0)) at.rows_are ∙ ap (λ (id : ℕ). applied rows (pending_of history id)) txn_is ∙ sym open_now.shown in
        record {
          in_order = (
            at.in_order,
            record {
              above = above;
              may_come = subst (λ (id : ℕ). IsFinished history id → ⊥) (sym txn_is) open_now.unfinished;
              fits = plain_fits closed (tt, at.plain) (page_fits history at.in_order);
            },
          );
          plain = (tt, at.plain);
          below = (tt, at.below);
          length_is = at.length_is;
          pages_are = at.pages_are;
          ids = omega (arith, at.ids, txn_is);
          commits_are = ap (λ (n : ℕ). n + 1) at.commits_are;
          rows_are = rows_now;
          idle = λ idle. record { none = λ id. none_left (eqb txn.0 id) id refl; shown = refl };
          busy = λ busy. absurd (true≢false (sym busy));
        }
