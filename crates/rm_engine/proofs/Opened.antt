-- Where a session stands over a volume that was just opened.
use Rattle.std.proofs.Common.{◌≡◌, inl, inr, ℕ, ◌≤◌, Bool, false, cond, eqb, List, [], ◌∷◌, refl, sym, ap, subst, ◌∙◌, arith}
use Rattle.std.proofs.lemmas.Bool.{cases_lt, ne_eqb, true≢false}
use Rattle.std.proofs.lemmas.List.{get_or_past}
use Rattle.rm_types.specs.declared.numbers.Rid.{Rid}
use Rattle.rm_types.specs.declared.slots.Slot.{Slot}
use Rattle.rm_outside.specs.Images.{Image}
use Rattle.rm_model.specs.Pages.{row_at, set_slot}
use Rattle.rm_model.specs.Files.{page_at, rows_of}
use Rattle.rm_history.specs.Acts.{Change, History, changes, undoes, enters, commits, ends, marks}
use Rattle.rm_history.specs.Contents.{page_of}
use Rattle.rm_history.specs.Pending.{pending_of}
use Rattle.rm_history.specs.Rows.{rows_of_log}
use Rattle.rm_history.specs.Counts.{commit_count}
use Rattle.rm_history.specs.Rules.{IsInOrder}
use Rattle.rm_history.specs.Laws.{IsChanged}
use Rattle.rm_history.specs.Batched.{acts_of_batches, AreBelow}
use Rattle.rm_history.proofs.Holding.{pages_hold_what_is_committed}
use Rattle.rm_wal.specs.Tails.{LogValue}
use Rattle.rm_restart.specs.Sound.{IsImageOf, IsSoundLog}
use Rattle.rm_restart.specs.Opening.{Opens}
use Rattle.rm_engine.specs.At.{IsAt}

set_elsewhere : (on : Bool) (slots : List Slot) (number : ℕ) (slot : Slot) → on ≡ false → cond on (set_slot slots number slot) slots ≡ slots
set_elsewhere on slots number slot off = ap (λ (b : Bool). cond b (set_slot slots number slot) slots) off

-- a page past the file has no slots
beyond : (history : History) (pages page : ℕ) → AreBelow pages history → pages ≤ page → page_of history page ≡ []
beyond [] pages page below past = refl
beyond (changes c ∷ before) pages page below past =
    set_elsewhere (eqb c.rid.page page) (page_of before page) c.rid.slot c.after (ne_eqb c.rid.page page (λ same. omega (arith, below.0))) ∙ beyond before pages page below.1 past
beyond (undoes u ∷ before) pages page below past =
    set_elsewhere (eqb u.rid.page page) (page_of before page) u.rid.slot u.back (ne_eqb u.rid.page page (λ same. omega (arith, below.0))) ∙ beyond before pages page below.1 past
beyond (enters e ∷ before) pages page below past = beyond before pages page below.1 past
beyond (commits f ∷ before) pages page below past = beyond before pages page below.1 past
beyond (ends f ∷ before) pages page below past = beyond before pages page below.1 past
beyond (marks m ∷ before) pages page below past = beyond before pages page below.1 past

-- where nothing is pending, the pages hold the rows of the log
settled : (history : History) → IsInOrder history → ((txn : ℕ) → pending_of history txn ≡ []) → (rid : Rid) → row_at (page_of history rid.page) rid.slot ≡ rows_of_log history rid
settled history ordered none rid = pages_hold_what_is_committed history ordered rid (λ txn changed. subst (λ (l : List Change). IsChanged l rid) (none txn) changed)

module _ (told : Type 0) (content : Image) (limit : ℕ) (pages : List (List Slot)) (next : ℕ) (log : LogValue) (inserted : ℕ) (opens : Opens told content limit pages next log inserted) where
  page_same : (page : ℕ) → page_at pages page ≡ page_of (acts_of_batches opens.batches) page
  page_same page = elim (cases_lt page opens.fields.pages) [
    | inl inside ↦ opens.pages_are page inside
    | inr past ↦
        get_or_past pages page [] (omega (arith, opens.count)) ∙ sym (beyond (acts_of_batches opens.batches) opens.fields.pages page opens.below past)
  ]

  rows_same : IsInOrder (acts_of_batches opens.batches) → rows_of pages ≡ rows_of_log (acts_of_batches opens.batches)
  rows_same ordered = λ i rid. (ap (λ (slots : List Slot). row_at slots rid.slot) (page_same rid.page) ∙ settled (acts_of_batches opens.batches) ordered opens.settled rid) i

  -- it has the rows of the log, which each image has
  pub at_opened : (left : Image → Type 0) → IsSoundLog opens.fields.pages opens.batches → ((c : Image) → left c → IsImageOf opens.fields.pages opens.batches c)
      → IsAt opens.fields.pages (commit_count (acts_of_batches opens.batches)) (rows_of_log (acts_of_batches opens.batches)) (record { pages = pages; next = next; active = false }) log 0 0 left
  at_opened left sound images = record {
    batches = opens.batches;
    tail = [];
    batch_is = ap (λ (l : LogValue). l.batch) opens.log_is;
    tail_is = ap (λ (l : LogValue). l.tail) opens.log_is;
    records = tt;
    sound = sound;
    images = images;
    commits_stand = refl;
    rows_stand = refl;
    idle_tail = λ idle. refl;
    at_history = record {
      in_order = sound.rules.0;
      plain = sound.rules.1;
      below = sound.below;
      length_is = opens.count;
      pages_are = opens.pages_are;
      ids = omega (arith, opens.next_is);
      commits_are = refl;
      rows_are = refl;
      idle = λ idle. record { none = opens.settled; shown = rows_same sound.rules.0 };
      busy = λ active. absurd (true≢false (sym active));
    };
  }
