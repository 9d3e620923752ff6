-- The master names one checkpoint, and no redo offset is before the redo point.
use Rattle.std.proofs.Common.{◌≡◌, inl, inr, ℕ, ◌<◌, ◌≤◌, Bool, true, false, cond, eqb, List, [], ◌∷◌, Option, Some, None, min}
use Rattle.std.proofs.Common.{refl, sym, ap, ◌∙◌, arith}
use Rattle.std.specs.List.{AllByRecursion}
use Rattle.rm_types.specs.declared.places.Place.{Place}
use Rattle.rm_master.specs.declared.fields.Fields.{Fields}
use Rattle.rm_history.specs.Logs.{Batch}
use Rattle.rm_history.specs.Acts.{Act, Listing, Mark, History, lists, marks, newest_lsn}
use Rattle.rm_history.specs.Rules.{Follows, IsInOrder}
use Rattle.rm_history.specs.Batched.{acts_of_batches}
use Rattle.rm_image.specs.Checkpoints.{IsListing, HasListing, HasCheckpoint, listed_pages, listed_blocks, place_or, least_of}
use Rattle.rm_image.specs.Checkpoints.{IsRedoOffset, IsRedoPoint}
use Rattle.rm_image.specs.ImageLaws.{CheckpointsAreOne, RedoPointIsLeast, IsOfTxn, CheckpointsAreRecords}

-- ---- one checkpoint

-- the LSN of a checkpoint is among those of the history
pub record IsAmong (history : History) (listing : Listing) : Type 0 where
  pub some : 0 < listing.lsn
  pub below : listing.lsn ≤ newest_lsn history

-- and so after one more record
still_among : (before : History) (act : Act) (listing : Listing) → Follows before act → IsAmong before listing
    → IsAmong (act ∷ before) listing
still_among before act listing follows among = record { some = among.some; below = omega (arith, among.below, follows.above) }

-- the newest record
newest_is_among : (before : History) (m : Mark) (listing : Listing) → Follows before (marks m) → IsListing m listing
    → IsAmong (marks m ∷ before) listing
newest_is_among before (lists l) listing follows is =
    let lsn : l.lsn ≡ listing.lsn = ap (λ (x : Listing). x.lsn) is in
    record { some = omega (arith, lsn, follows.above); below = omega (arith, lsn) }

pub listing_is_among : (history : History) (listing : Listing) → IsInOrder history → HasListing history listing
    → IsAmong history listing
listing_is_among [] listing ordered has = absurd has
listing_is_among (marks m ∷ before) listing ordered (inl is) = newest_is_among before m listing ordered.1 is
listing_is_among (marks m ∷ before) listing ordered (inr earlier) =
    still_among before (marks m) listing ordered.1 (listing_is_among before listing ordered.0 earlier)
listing_is_among (other ∷ before) listing ordered has =
    still_among before other listing ordered.1 (listing_is_among before listing ordered.0 has)

-- an earlier checkpoint has another LSN than the newest
not_earlier : (before : History) (m : Mark) (earlier newest : Listing) → IsInOrder before → Follows before (marks m)
    → IsListing m newest
    → HasListing before earlier → newest.lsn ≡ earlier.lsn → ⊥
not_earlier before (lists l) earlier newest ordered follows is has same =
    omega (arith, (listing_is_among before earlier ordered has).below, follows.above, ap (λ (x : Listing). x.lsn) is, same)

both_newest : (m : Mark) (a b : Listing) → IsListing m a → IsListing m b → a ≡ b
both_newest (lists l) a b is other_is = sym is ∙ other_is

-- a history in order has one checkpoint with an LSN
one_listing : (history : History) (a b : Listing) → IsInOrder history → HasListing history a → HasListing history b
    → a.lsn ≡ b.lsn → a ≡ b
one_listing [] a b ordered has other same = absurd has
one_listing (marks m ∷ before) a b ordered (inl is) (inl other_is) same = both_newest m a b is other_is
one_listing (marks m ∷ before) a b ordered (inl is) (inr other) same =
    absurd (not_earlier before m b a ordered.0 ordered.1 is other same)
one_listing (marks m ∷ before) a b ordered (inr has) (inl other_is) same =
    absurd (not_earlier before m a b ordered.0 ordered.1 other_is has (sym same))
one_listing (marks m ∷ before) a b ordered (inr has) (inr other) same = one_listing before a b ordered.0 has other same
one_listing (act ∷ before) a b ordered has other same = one_listing before a b ordered.0 has other same

pub checkpoints_are_one : CheckpointsAreOne
checkpoints_are_one fields batches None None ordered is other = refl
checkpoints_are_one fields batches None (Some listing) ordered is other =
    absurd (omega (arith, (listing_is_among (acts_of_batches batches) listing ordered other.is_there).some, other.lsn_is, is))
checkpoints_are_one fields batches (Some listing) None ordered is other =
    absurd (omega (arith, (listing_is_among (acts_of_batches batches) listing ordered is.is_there).some, is.lsn_is, other))
checkpoints_are_one fields batches (Some listing) (Some others) ordered is other =
    ap Some (one_listing (acts_of_batches batches) listing others ordered is.is_there other.is_there (is.lsn_is ∙ sym other.lsn_is))

-- a checkpoint is no record of a transaction
no_listing : (history : History) (listing : Listing) → AllByRecursion IsOfTxn history → HasListing history listing → ⊥
no_listing [] listing all has = has
no_listing (marks m ∷ before) listing all has = all.0
no_listing (other ∷ before) listing all has = no_listing before listing all.1 has

pub checkpoints_are_records : CheckpointsAreRecords
checkpoints_are_records fields batches None all has = has
checkpoints_are_records fields batches (Some listing) all has =
    absurd (no_listing (acts_of_batches batches) listing all has.is_there)

-- ---- the redo point

-- the least is no more than any of them
least_of-other : (places : List Place) (other : ℕ) → least_of places other ≤ other
least_of-other [] other = omega arith
least_of-other (first ∷ places) other = omega (arith, least_of-other places other)

least_or : (here : Bool) (at least rest other : ℕ) → least ≤ rest → min at least ≤ cond here at rest
least_or true at least rest other below = omega arith
least_or false at least rest other below = omega (arith, below)

least_of-place : (places : List Place) (number other : ℕ) → least_of places other ≤ place_or places number other
least_of-place [] number other = omega arith
least_of-place (first ∷ places) number other =
    least_or (eqb first.number number) first.at (least_of places other) (place_or places number other) other (least_of-place places number other)

-- nor is it more for a lesser one
least_of-less : (places : List Place) (less more : ℕ) → less ≤ more → least_of places less ≤ least_of places more
least_of-less [] less more le = le
least_of-less (first ∷ places) less more le = omega (arith, least_of-less places less more le)

-- a block has one redo offset
pub redo_offset_is : (listed : Option Listing → List Place) (fields : Fields) (batches : List Batch) (named : Option Listing) (number redo : ℕ)
    → IsInOrder (acts_of_batches batches) → HasCheckpoint fields batches named → IsRedoOffset listed fields batches number redo
    → redo ≡ place_or (listed named) number fields.batch
redo_offset_is listed fields batches named number redo ordered has is =
    is.2 ∙ ap (λ (n : Option Listing). place_or (listed n) number fields.batch) (checkpoints_are_one fields batches is.0 named ordered is.1 has)

-- so the redo point is not after the offset that one of the checkpoint's lists gives
not_before : (listed : Option Listing → List Place) (fields : Fields) (batches : List Batch) (point number redo : ℕ)
    → IsInOrder (acts_of_batches batches)
    → fields.restoring ≡ false
    → ((named : Option Listing) → least_of (listed_pages named) (least_of (listed_blocks named) fields.batch) ≤ place_or (listed named) number fields.batch)
    → IsRedoPoint fields batches point → IsRedoOffset listed fields batches number redo → point ≤ redo
not_before listed fields batches point number redo ordered not_restoring least (inl restoring) is = cc
not_before listed fields batches point number redo ordered not_restoring least (inr is_point) is =
    omega (arith, is_point.1.2, least is_point.1.0, redo_offset_is listed fields batches is_point.1.0 number redo ordered is_point.1.1 is)

pub redo_point_is_least : RedoPointIsLeast
redo_point_is_least = record {
  pages =
      λ fields batches point page redo ordered not_restoring. not_before listed_pages fields batches point page redo ordered not_restoring
      (λ named. omega (
        arith,
        least_of-less (listed_pages named) (least_of (listed_blocks named) fields.batch) fields.batch (least_of-other (listed_blocks named) fields.batch),
        least_of-place (listed_pages named) page fields.batch,
      ));
  blocks =
      λ fields batches point place redo ordered not_restoring. not_before listed_blocks fields batches point place redo ordered not_restoring
      (λ named. omega (
        arith,
        least_of-other (listed_pages named) (least_of (listed_blocks named) fields.batch),
        least_of-place (listed_blocks named) place fields.batch,
      ));
  copied = λ fields batches point restoring. elim [ inl is ↦ omega (arith, is.1) | inr is ↦ cc ];
}
