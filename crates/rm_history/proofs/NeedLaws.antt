-- The need of changes is the most that any of the last of them gave up more than they took.
use Rattle.std.proofs.Common.{◌≡◌, inl, inr, ◌+◌, ◌≤◌, List, [], ◌∷◌, ◌++◌, refl, sym, ap, ◌∙◌, arith}
use Rattle.std.specs.Prelude.{reverse}
use Rattle.std.proofs.lemmas.Bool.{cases_lt}
use Rattle.std.proofs.lemmas.List.{reverse-reverse, reverse-append}
use Rattle.std.proofs.lemmas.List.Sums.{sum_by-cons}
use Rattle.std.proofs.lemmas.List.Sorted.{sum_by-IsPermutation, IsPermutation-reverse}
use Rattle.rm_model.specs.Pages.{row_length}
use Rattle.rm_history.specs.Acts.{Change}
use Rattle.rm_history.specs.Needs.{need_for}
use Rattle.rm_history.specs.Literal.{lost, gained}
use Rattle.rm_history.specs.LiteralLaws.{NeedIsTheMost}

-- what changes gave up does not depend on their order
lost-reverse : (changed : List Change) → lost (reverse changed) ≡ lost changed
lost-reverse changed = sum_by-IsPermutation (λ (c : Change). row_length c.before) changed (reverse changed) (IsPermutation-reverse changed)

-- nor does what they took
gained-reverse : (changed : List Change) → gained (reverse changed) ≡ gained changed
gained-reverse changed = sum_by-IsPermutation (λ (c : Change). row_length c.after) changed (reverse changed) (IsPermutation-reverse changed)

-- one change more adds what it gave up
lost-cons : (newest : Change) (before : List Change) → lost (newest ∷ before) ≡ row_length newest.before + lost before
lost-cons newest before = sum_by-cons (λ (c : Change). row_length c.before) newest before

-- and what it took
gained-cons : (newest : Change) (before : List Change) → gained (newest ∷ before) ≡ row_length newest.after + gained before
gained-cons newest before = sum_by-cons (λ (c : Change). row_length c.after) newest before

-- the newest of the changes gave up no more than the need over what they took
most_of_newest : (newest older : List Change) → lost newest ≤ need_for (newest ++ older) + gained newest
most_of_newest [] older = omega arith
most_of_newest (first ∷ newest) older = omega (arith, most_of_newest newest older, lost-cons first newest, gained-cons first newest)

-- the need, and some of the newest changes that gave up so much more than they took
record Greatest (changed : List Change) : Type 0 where
  newest : List Change
  older : List Change
  cut : changed ≡ newest ++ older
  is : need_for changed + gained newest ≡ lost newest

-- with one change more it is that of none of them, or of one more
greatest_more : (first : Change) (before : List Change) → Greatest before → Greatest (first ∷ before)
greatest_more first before found = elim (cases_lt (need_for before + row_length first.before) (row_length first.after)) [
  | inl less ↦ record { newest = []; older = first ∷ before; cut = refl; is = omega (arith, less) }
  | inr more ↦ record {
    newest = first ∷ found.newest;
    older = found.older;
    cut = ap (λ (l : List Change). first ∷ l) found.cut;
    is = omega (arith, more, found.is, lost-cons first found.newest, gained-cons first found.newest);
  }
]

-- the need of any changes is so much of some of their newest
greatest : (changed : List Change) → Greatest changed
greatest [] = record { newest = []; older = []; cut = refl; is = refl }
greatest (first ∷ before) = greatest_more first before (greatest before)

-- the last of the changes in order are the newest ones
cut_newest : (changed prefix last : List Change) → reverse changed ≡ prefix ++ last → changed ≡ reverse last ++ reverse prefix
cut_newest changed prefix last cut = sym (reverse-reverse changed) ∙ ap reverse cut ∙ reverse-append prefix last

-- and the newest of them are the last ones in order
cut_last : (changed newest older : List Change) → changed ≡ newest ++ older → reverse changed ≡ reverse older ++ reverse newest
cut_last changed newest older cut = ap reverse cut ∙ reverse-append newest older

-- what the last of the changes gave up
most_of_last : (changed prefix last : List Change) → reverse changed ≡ prefix ++ last → lost last ≤ need_for changed + gained last
most_of_last changed prefix last cut =
    let most : lost (reverse last) ≤ need_for (reverse last ++ reverse prefix) + gained (reverse last) = most_of_newest (reverse last) (reverse prefix) in
    omega (arith, most, ap need_for (cut_newest changed prefix last cut), lost-reverse last, gained-reverse last)

-- the need is the most of all that the last of them gave up more than they took
pub need_is_the_most : NeedIsTheMost
need_is_the_most changed =
    let found = greatest changed in
    record {
      most = most_of_last changed;
      earlier = reverse found.older;
      last = reverse found.newest;
      cut = cut_last changed found.newest found.older found.cut;
      is = omega (arith, found.is, lost-reverse found.newest, gained-reverse found.newest);
    }
