-- A log of two batches, for the example of a whole image: an insert and its commit, and then a checkpoint.
use Rattle.std.proofs.Common.{◌≡◌, inl, inr, ℕ, zero, suc, ◌<◌, ◌≤◌, Bool, true, false, cond, eqb, List, [], ◌∷◌, get_or, refl}
use Rattle.std.proofs.Common.{arith, lit<, lit≤}
use Rattle.std.proofs.Math.Dec.{eqb-zero-suc}
use Rattle.rm_types.specs.declared.formats.Format.TheVariants.{One}
use Rattle.rm_types.specs.declared.places.Place.{Place}
use Rattle.rm_types.specs.declared.slots.Slot.TheVariants.{Vacant, Row}
use Rattle.rm_types.specs.declared.slots.TheConstants.{CAPACITY}
use Rattle.rm_model.specs.Pages.{used}
use Rattle.rm_record.specs.declared.records.LogRecord.TheVariants.{Insert, Commit, Checkpoint}
use Rattle.rm_history.specs.Logs.{Batch, IsBatch}
use Rattle.rm_history.specs.Acts.{Act, Change, Listing, History, lists, changes, commits, marks}
use Rattle.rm_model.specs.Categories.{category_of}
use Rattle.rm_history.specs.Contents.{page_of}
use Rattle.rm_history.specs.Pending.{pending_of}
use Rattle.rm_history.specs.Transactions.{HasRecord, IsFinished}
use Rattle.rm_model.specs.Sums.{sum_below}
use Rattle.rm_history.specs.Needs.{need_of, need_for, on_page, Fits}
use Rattle.rm_history.specs.Legal.{IsLegal}
use Rattle.rm_history.specs.Batched.{acts_of_batches}
use Rattle.rm_image.specs.Whole.{IsLogSound}

-- ---- its records

abbrev pub row : List ℕ
row = 97 ∷ []

-- the checkpoint lists the block of page 0, which lacks the insert, with the gate of the first batch
abbrev pub place : Place
place = record { number = 0; at = 0 }

abbrev pub first : Batch
first = Insert (record { 0 = 1 }) (record { 0 = 0 }) (record { page = 0; slot = 0 }) 0 row ∷ Commit (record { 0 = 1 }) ∷ []

abbrev pub second : Batch
second = Checkpoint 2 [] (place ∷ []) [] ∷ []

abbrev pub batches : List Batch
batches = second ∷ first ∷ []

-- what they do
abbrev change : Change
change = record { lsn = 5; txn = 1; under = 0; rid = record { page = 0; slot = 0 }; need = 0; before = Vacant; after = Row row }

abbrev insert : Act
insert = changes change

abbrev commit : Act
commit = commits (record { lsn = 29; txn = 1 })

abbrev pub listing : Listing
listing = record { lsn = 39; next = 2; losers = []; pages = place ∷ []; blocks = [] }

abbrev pub committed : History
committed = commit ∷ insert ∷ []

abbrev pub history : History
history = marks (lists listing) ∷ committed

pub acts : acts_of_batches batches ≡ history
acts = refl

row_bytes : (k : ℕ) → get_or row k 0 < 256
row_bytes zero = lit< tt
row_bytes (suc k) = lit< tt

pub first_is_batch : IsBatch 0 first
first_is_batch = record {
  records = (
    (record { by = (lit< tt, lit< tt); above = lit< tt; place = (lit< tt, lit≤ tt); reserved = lit≤ tt }, record { short = lit≤ tt; are_bytes = row_bytes }),
    ((lit< tt, lit< tt), tt),
  );
  range = record { some = lit< tt; short = lit≤ tt; in_log = lit≤ tt };
}

pub second_is_batch : IsBatch 34 second
second_is_batch = record {
  records = (
    record {
      next_in = (lit< tt, lit≤ tt);
      losers_in = record { few = lit≤ tt; between = tt };
      pages_in = record { few = lit≤ tt; between = (lit≤ tt, lit≤ tt, lit< tt, tt) };
      blocks_in = record { few = lit≤ tt; between = tt };
    },
    tt,
  );
  range = record { some = lit< tt; short = lit≤ tt; in_log = lit≤ tt };
}

-- ---- it is legal

-- an insert needs nothing for its undo, be it on the page or not, and the transaction's or not
need_on_page : (here : Bool) → need_for (cond here (change ∷ []) []) ≡ 0
need_on_page true = refl
need_on_page false = refl

need_of_txn : (its : Bool) (page : ℕ) → need_for (on_page page (cond its (change ∷ []) [])) ≡ 0
need_of_txn true page = need_on_page (eqb 0 page)
need_of_txn false page = refl

need_of_insert : (txn page : ℕ) → need_of (insert ∷ []) txn page ≡ 0
need_of_insert txn page = need_of_txn (eqb 1 txn) page

-- nor does the transaction once it has committed
need_committed : (its : Bool) (txn page : ℕ) → need_for (on_page page (cond its [] (pending_of (insert ∷ []) txn))) ≡ 0
need_committed true txn page = refl
need_committed false txn page = need_of_insert txn page

need_of_commit : (txn page : ℕ) → need_of committed txn page ≡ 0
need_of_commit txn page = need_committed (eqb 1 txn) txn page

-- so the page with the row has room, and any other is empty
no_sum : (f : ℕ → ℕ) → ((k : ℕ) → f k ≡ 0) → (n : ℕ) → sum_below f n ≡ 0
no_sum f none zero = refl
no_sum f none (suc n) = omega (arith, none n, no_sum f none n)

few_used : (page : ℕ) → used (page_of history page) ≤ CAPACITY
few_used zero = lit≤ tt
few_used (suc page) = rw (eqb-zero-suc page) (lit≤ tt)

insert_fits : Fits (insert ∷ [])
insert_fits page n = omega (arith, few_used page, no_sum _ (λ txn. need_of_insert txn page) n)

commit_fits : Fits committed
commit_fits page n = omega (arith, few_used page, no_sum _ (λ txn. need_of_commit txn page) n)

-- each category is 0, as the entries are
no_category : (page : ℕ) → 0 ≡ category_of One (page_of history page)
no_category zero = refl
no_category (suc page) = rw (eqb-zero-suc page) refl

-- the one transaction that has a record has committed
next_is : (txn : ℕ) → HasRecord committed txn → txn < 2
next_is txn (inl is) = omega (arith, is)
next_is txn (inr (inl is)) = omega (arith, is)
next_is txn (inr (inr none)) = absurd none

finished : (txn : ℕ) → HasRecord committed txn → IsFinished committed txn
finished txn (inl is) = inl is
finished txn (inr (inl is)) = inl is
finished txn (inr (inr none)) = absurd none

pub legal : IsLegal One history
legal = (
  (
    (
      tt,
      record {
        above = lit< tt;
        may_come =
            record { unfinished = λ is. is; held = refl; others = λ other differs has. absurd has; under_is = refl; need_is = refl };
        fits = insert_fits;
      },
      record { entered = tt; follow = λ page. inl (no_category page) },
    ),
    record { above = lit< tt; may_come = λ is. is; fits = commit_fits },
    record { entered = tt; follow = λ page. inl (no_category page) },
  ),
  record {
    above = lit< tt;
    may_come =
        record { next_is = next_is; all = λ txn some has unfinished. absurd (unfinished (finished txn has)); only = λ loser is. absurd is };
    fits = commit_fits;
  },
  record { entered = tt; follow = λ page. inl (no_category page) },
)

pub log_is_sound : IsLogSound IsLegal (record { format = One; pages = 1 }) batches
log_is_sound = record { rules = legal; below = (tt, (tt, (lit< tt, tt))); room = lit≤ tt }
