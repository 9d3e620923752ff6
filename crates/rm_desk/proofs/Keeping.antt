-- What holds of a history and its pending changes, after one more record.
use Rattle.rm_desk.proofs.Names.{◌≡◌, ℕ, ◌+◌, ◌<◌, ◌≤◌, ◌⊎◌, inl, inr, if◌then◌else◌, ◌==◌, List, [], ◌∷◌, refl, sym, ap, subst, ◌∙◌, arith, nat_tests}
use Rattle.rm_desk.proofs.Names.{cases_eq, cases_lt, ne_eqb, eq-eqb, Act, Change, Undo, Entry, Finish, History, changes, undoes, enters, commits, ends, Fits, FitsOn}
use Rattle.rm_desk.proofs.Names.{pending_of, last_of, newest_lsn, lsn_of, need_of, need_for, on_page, others_need, greatest_txn, used, page_of, CAPACITY, sum_below-more}
use Rattle.rm_desk.proofs.Names.{sum_below-past, pending-change, pending-change_other, pending-undo_other, pending-commit, pending-commit_other, pending-end}
use Rattle.rm_desk.proofs.Names.{pending-end_other, pending_of-undo, pending_on-undo, need_of-undo_other, room_kept, fits_as_before, finish_fits, Goes, AreKept, IsKept}

-- past the greatest id nothing is pending
pub pending_past : (history : History) (txn : ℕ) → greatest_txn history < txn → pending_of history txn ≡ []
pending_past [] txn past = refl
pending_past (act ∷ before) txn past = grind (arith, nat_tests, pending_past before txn)

-- one transaction has other changes pending after a record, and each page still fits
pub record Logged (pages : ℕ) (act : Act) (before : History) (mine : ℕ) : Type 0 where
  pub above : newest_lsn before < lsn_of act
  pub its : AreKept pages (pending_of (act ∷ before) mine)
  pub its_last : last_of (pending_of (act ∷ before) mine) ≤ lsn_of act
  pub others : (txn : ℕ) → (mine ≡ txn → ⊥) → pending_of (act ∷ before) txn ≡ pending_of before txn
  pub fits : Fits (act ∷ before)

logged_kept : (pages next : ℕ) (act : Act) (before : History) (mine : ℕ) → mine < next → Logged pages act before mine → IsKept pages next before
    → IsKept pages next (act ∷ before)
logged_kept pages next act before mine given l kept = record {
  fits = l.fits;
  chained = λ txn. elim (cases_eq mine txn) [
    | inl same ↦ subst (λ (t : ℕ). AreKept pages (pending_of (act ∷ before) t)) same l.its
    | inr differs ↦ subst (AreKept pages) (sym (l.others txn differs)) (kept.chained txn)
  ];
  below = λ txn. elim (cases_eq mine txn) [
    | inl same ↦ subst (λ (t : ℕ). last_of (pending_of (act ∷ before) t) ≤ lsn_of act) same l.its_last
    | inr differs ↦ omega (arith, ap last_of (l.others txn differs), kept.below txn, l.above)
  ];
  fresh = λ txn past. l.others txn (λ same. omega (arith, same)) ∙ kept.fresh txn past;
}

pub change_kept : (pages next : ℕ) (before : History) (c : Change) → c.txn < next → newest_lsn before < c.lsn → Goes pages c (pending_of before c.txn)
    → Fits (changes c ∷ before) → IsKept pages next before → IsKept pages next (changes c ∷ before)
change_kept pages next before c given above goes fits kept = logged_kept pages next (changes c) before c.txn given (record {
  above = above;
  its = subst (AreKept pages) (sym (pending-change c before)) (goes, kept.chained c.txn);
  its_last = omega (arith, ap last_of (pending-change c before));
  others = pending-change_other c before;
  fits = fits;
}) kept

pub enter_kept : (pages next : ℕ) (before : History) (e : Entry) → newest_lsn before < e.lsn → IsKept pages next before → IsKept pages next (enters e ∷ before)
enter_kept pages next before e above kept =
    record { fits = kept.fits; chained = kept.chained; below = λ txn. omega (arith, kept.below txn, above); fresh = kept.fresh }

pub commit_kept : (pages next : ℕ) (before : History) (f : Finish) → f.txn < next → newest_lsn before < f.lsn → IsKept pages next before
    → IsKept pages next (commits f ∷ before)
commit_kept pages next before f given above kept = logged_kept pages next (commits f) before f.txn given (record {
  above = above;
  its = subst (AreKept pages) (sym (pending-commit f before)) tt;
  its_last = omega (arith, ap last_of (pending-commit f before));
  others = pending-commit_other f before;
  fits = finish_fits before f kept.fits;
}) kept

pub end_kept : (pages next : ℕ) (before : History) (f : Finish) → f.txn < next → newest_lsn before < f.lsn → IsKept pages next before
    → IsKept pages next (ends f ∷ before)
end_kept pages next before f given above kept = logged_kept pages next (ends f) before f.txn given (record {
  above = above;
  its = subst (AreKept pages) (sym (pending-end f before)) tt;
  its_last = omega (arith, ap last_of (pending-end f before));
  others = pending-end_other f before;
  fits = finish_fits before f kept.fits;
}) kept

pub next_kept : (pages next : ℕ) (history : History) → IsKept pages next history → IsKept pages (next + 1) history
next_kept pages next history kept = record { fits = kept.fits; chained = kept.chained; below = kept.below; fresh = λ txn past. kept.fresh txn (omega arith) }

-- ---- an undo

module _ (before : History) (u : Undo) (last : Change) (rest : List Change) (is : pending_of before u.txn ≡ last ∷ rest) (at : u.rid ≡ last.rid) where
  abbrev after : History
  after = undoes u ∷ before

  elsewhere : (page : ℕ) → (last.rid.page ≡ page → ⊥) → FitsOn before page → FitsOn after page
  elsewhere page other = fits_as_before before after page (rw (at, ne_eqb last.rid.page page other)) (λ txn. pending_on-undo u before last rest txn page is other)

  past : (k : ℕ) → greatest_txn before + 1 ≤ k → (k ≡ u.txn) ⊎ (k ≡ u.txn → ⊥) → (if k == u.txn then 0 else need_of before k last.rid.page) ≡ 0
  past k above (inl mine) = rw (eq-eqb k u.txn mine)
  past k above (inr other) = rw (ne_eqb k u.txn other) (ap (λ (l : List Change). need_for (on_page last.rid.page l)) (pending_past before k (omega arith)))

  -- the page has room for what it uses then, for what the other transactions' undo needs, and for the transaction's own
  pub undo_fits_on : used (page_of after last.rid.page) + others_need before u.txn last.rid.page + need_of after u.txn last.rid.page ≤ CAPACITY → FitsOn after last.rid.page
  undo_fits_on room =
      let page : ℕ = last.rid.page in
      let f = λ (other : ℕ). if other == u.txn then 0 else need_of before other page in
      let g = λ (other : ℕ). need_of after other page in
      let same : (k : ℕ) → (k ≡ u.txn → ⊥) → g k ≡ f k = λ k other. rw (ne_eqb k u.txn other) (need_of-undo_other before u k page (λ is. other (sym is))) in
      let own : f u.txn ≡ 0 = rw (eq-eqb u.txn u.txn refl) in
      let none : (k : ℕ) → greatest_txn before + 1 ≤ k → f k ≡ 0 = λ k above. past k above (cases_eq k u.txn) in
      room_kept f g u.txn (used (page_of after page) + g u.txn) (used (page_of after page)) same (omega (arith, own))
      (λ n. elim (cases_lt n (greatest_txn before + 1)) [
        | inl below ↦ omega (arith, room, sum_below-more f n (greatest_txn before + 1) (omega arith))
        | inr above ↦ omega (arith, room, sum_below-past f (greatest_txn before + 1) n none above)
      ])

  pub undo_kept : (pages next : ℕ) → u.txn < next → newest_lsn before < u.lsn → FitsOn after last.rid.page → IsKept pages next before → IsKept pages next after
  undo_kept pages next given above fits kept =
      let its : AreKept pages (last ∷ rest) = subst (AreKept pages) is (kept.chained u.txn) in
      logged_kept pages next (undoes u) before u.txn given (record {
        above = above;
        its = subst (AreKept pages) (sym (pending_of-undo before u last rest is)) its.1;
        its_last = omega (arith, ap last_of (pending_of-undo before u last rest is), its.0.falls, kept.below u.txn, ap last_of is, above);
        others = pending-undo_other u before;
        fits = λ page. elim (cases_eq last.rid.page page) [ inl here ↦ subst (FitsOn after) here fits | inr other ↦ elsewhere page other (kept.fits page) ];
      }) kept
