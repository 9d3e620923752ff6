-- A whole image with records, a checkpoint and a copy: a volume of one page, whose block lacks a committed insert.
use Rattle.std.proofs.Common.{◌≡◌, inl, inr, false, if◌then◌else◌, nat_lt, ℕ, ◌+◌, ◌-◌, zero, suc, ◌≤◌, ◌<◌, List, [], ◌∷◌, ◌++◌, replicate}
use Rattle.std.proofs.Common.{get_or, Some, refl, ap}
use Rattle.std.proofs.Common.{subst, arith, lit<, lit≤}
use Rattle.std.proofs.lemmas.Bool.{le-ltb}
use Rattle.std.proofs.lemmas.List.{get_or-append-add, get_or_past}
use Rattle.std.specs.Int.{w16, w64, to_be_bytes}
use Rattle.rm_types.specs.declared.areas.Area.TheVariants as area
use Rattle.rm_types.specs.declared.formats.Format.TheVariants.{One}
use Rattle.rm_types.specs.declared.places.Place.{Place}
use Rattle.rm_types.specs.declared.slots.Slot.TheVariants.{Row}
use Rattle.rm_model.specs.Pages.{slot_at}
use Rattle.rm_outside.specs.Images.{Bytes, Image, Shows}
use Rattle.rm_outside.proofs.ShowsLemmas.{shows_front, shows_back}
use Rattle.rm_master.specs.declared.fields.Fields.{Fields}
use Rattle.rm_master.specs.Fields.{slot_bytes}
use Rattle.rm_master.specs.Slots.{HasFields}
use Rattle.rm_history.specs.Logs.{body_of, HasLog}
use Rattle.rm_history.specs.Batched.{batch_of, IsGate}
use Rattle.rm_history.specs.Rules.{IsIn}
use Rattle.rm_block.specs.Blocks.{block_at, IsDataBlock, HasSlot}
use Rattle.rm_block.specs.Laws.{IsZeroBlock}
use Rattle.rm_block.proofs.Zeros.{zeros_are_empty}
use Rattle.rm_image.specs.declared.TheConstants.{HALF_BLOCKS}
use Rattle.rm_image.specs.Standing.{StandsFor, EntriesStandFor, IsInBlock, HoldsEntries}
use Rattle.rm_image.specs.Having.{HasPage, HasEntries}
use Rattle.rm_image.specs.Starts.{Start}
use Rattle.rm_image.specs.Checkpoints.{NamesListing, IsCheckpointSound, IsRedoPoint}
use Rattle.rm_image.specs.Copies.{copied_page, copied_block, IsCopyOfFile}
use Rattle.rm_image.specs.Whole.{IsWholeWith, IsPageWhole, IsBlockWhole}
use Rattle.rm_image.proofs.PrefixLemmas.{stands_whole}
use Rattle.rm_image.proofs.PrefixLaws.{is_entries_block}
use Rattle.rm_image.proofs.ExampleLog.{row, place, listing, first, second, batches, history, first_is_batch, second_is_batch}
use Rattle.rm_image.proofs.ExampleLog.{log_is_sound}

-- the master names the checkpoint at 39, in the batch at 34, and half 2, whose copy starts at 34 too
abbrev fields : Fields
fields = record { version = 1; pages = 1; batch = 34; checkpoint = 39; half = 2; restoring = false; start = 34; copied = 1 }

abbrev start : Start
start = record { format = One; pages = 1 }

abbrev head : List ℕ
head = 1 ∷ replicate 63 0

-- the batches after their gates; all blocks are zeros, but for that of the copied page, which has the row
abbrev log : List ℕ
log = body_of first ++ (1 ∷ []) ++ body_of second

abbrev copied : List ℕ
copied = to_be_bytes w64 5 ++ (to_be_bytes w16 1 ++ (replicate 6 0 ++ (to_be_bytes w16 20 ++ (to_be_bytes w16 1 ++ row))))

-- half 1 of area Copy has other bytes
abbrev half_at : ℕ
half_at = block_at HALF_BLOCKS

abbrev image : Image
image area.Master = λ k. get_or (head ++ slot_bytes fields) k 0
image area.Log = λ k. get_or ((1 ∷ []) ++ log) k 0
image area.Data = λ k. 0
image area.Space = λ k. 0
image area.Copy = λ k. if nat_lt k half_at then 9 else get_or copied (k - half_at) 0

has_fields : HasFields (image area.Master) fields
has_fields = record {
  made = refl;
  rules = record {
    file = record { known = refl; some_pages = lit≤ tt; few_pages = lit≤ tt };
    checkpoint =
        record { batch_within = lit≤ tt; within = lit≤ tt; none = λ is. absurd (omega (arith, is)); after_batch = λ some. lit≤ tt };
    copy = record {
      known = lit≤ tt;
      start_within = lit≤ tt;
      copied_within = lit≤ tt;
      some_copied = λ some. lit≤ tt;
      not_restoring = λ none. refl;
      no_start = λ none. absurd (omega (arith, none));
      none_copied = λ none. absurd (omega (arith, none));
    };
  };
  slot = record { each = λ k below. get_or-append-add head (slot_bytes fields) k 0 };
}

shows_log : Shows (image area.Log) 1 log
shows_log = record { each = λ k below. get_or-append-add (1 ∷ []) log k 0 }

has_log : HasLog (image area.Log) batches
has_log = record {
  stands = (
    (tt, first_is_batch, refl, shows_front (body_of first) ((1 ∷ []) ++ body_of second) shows_log),
    second_is_batch,
    refl,
    shows_back (1 ∷ []) (body_of second) (shows_back (body_of first) ((1 ∷ []) ++ body_of second) shows_log),
  );
  closed = λ is. omega (arith, is);
}

-- ---- the blocks

-- a block of zeros lacks the insert, as the checkpoint says
page_stands : StandsFor (batch_of batches) history 0 0 [] 0
page_stands = (
  λ le. absurd (omega (arith, le)),
  λ lt. (
    λ on. absurd on,
    (
      λ le. absurd (omega (arith, le)),
      λ more. (λ on. absurd on, (λ le. absurd (omega (arith, le)), λ above. (λ on. lit≤ tt, (refl, refl)))),
    ),
  ),
)

-- the copied block has it
copied_stands : StandsFor (batch_of batches) history 0 5 (Row row ∷ []) 34
copied_stands = (
  λ le. absurd (omega (arith, le)),
  λ lt. (
    λ on. absurd on,
    (
      λ le. absurd (omega (arith, le)),
      λ more. (λ on. absurd on, (λ le. (refl, refl), λ above. absurd (omega (arith, above)))),
    ),
  ),
)

-- and the inventory has no record
entries_stand : (redo : ℕ) → EntriesStandFor (batch_of batches) history 0 0 (λ index. 0) redo
entries_stand redo = stands_whole (HoldsEntries 0 0 (λ index. 0)) (IsInBlock 0) (batch_of batches) 0 redo
    (is_entries_block 0 (batch_of batches) 0 (λ index. 0) redo) history (refl, λ index below. refl)

shows_copied : Shows (image area.Copy) half_at copied
shows_copied = record {
  each = λ k below.
      let there : half_at + k - half_at ≡ k = omega arith in
      rw (le-ltb (half_at + k) half_at (omega arith)) (ap (λ (n : ℕ). get_or copied n 0) there);
}

-- its bytes, field by field
after_lsn : Shows (image area.Copy) (half_at + 8) (to_be_bytes w16 1 ++ (replicate 6 0 ++ (to_be_bytes w16 20 ++ (to_be_bytes w16 1 ++ row))))
after_lsn = shows_back (to_be_bytes w64 5) _ shows_copied

entry : Shows (image area.Copy) (half_at + 16) (to_be_bytes w16 20 ++ (to_be_bytes w16 1 ++ row))
entry = shows_back (replicate 6 0) _ (shows_back (to_be_bytes w16 1) _ after_lsn)

entry_length : Shows (image area.Copy) (half_at + 18) (to_be_bytes w16 1 ++ row)
entry_length = shows_back (to_be_bytes w16 20) _ entry

copied_slot : (number : ℕ) → number < 1 → HasSlot (image area.Copy) half_at 1 number (slot_at (Row row ∷ []) number) 20
copied_slot zero below = (
  λ is. omega (arith, is),
  record { after = lit≤ tt; short = lit≤ tt; inside = lit≤ tt },
  shows_front (to_be_bytes w16 20) _ entry,
  shows_front (to_be_bytes w16 1) _ entry_length,
  shows_back (to_be_bytes w16 1) _ entry_length,
)
copied_slot (suc number) below = absurd (omega (arith, below))

copied_block_is : IsDataBlock (image area.Copy) half_at 5 (Row row ∷ [])
copied_block_is = record {
  version = shows_front (to_be_bytes w64 5) _ shows_copied;
  count = shows_front (to_be_bytes w16 1) _ after_lsn;
  few = lit≤ tt;
  places = λ number. 20;
  each = copied_slot;
  apart = λ a b a_first below. absurd (omega (arith, a_first, below));
}

-- ---- the checkpoint and the copy

names_it : NamesListing fields batches listing
names_it = record { is_there = inl refl; lsn_is = refl; batch_is = refl }

lists_gates : (listed : Place) → IsIn (place ∷ []) listed → (listed.number < 1) × IsGate batches listed.at × (listed.at ≤ 34)
lists_gates listed (inl same) =
    subst (λ (p : Place). (p.number < 1) × IsGate batches p.at × (p.at ≤ 34)) same (lit< tt, inr (inr refl), lit≤ tt)
lists_gates listed (inr none) = absurd none

checkpoint_is_sound : IsCheckpointSound start fields batches
checkpoint_is_sound = record { named = Some listing; has = names_it; pages = lists_gates; blocks = λ listed none. absurd none }

-- the only block of the inventory has no record
only_block : (c : Bytes) (number block redo : ℕ) → IsZeroBlock c (block_at number) → block < 1
    → HasEntries One c batches number block redo
only_block c number zero redo zeros below =
    record { version = 0; entries = λ index. 0; is_block = zeros_are_empty.entries c (block_at number) zeros; stands = entries_stand redo }
only_block c number (suc block) redo zeros below = absurd (omega (arith, below))

copied_page_is : (page : ℕ) → page < 1 → HasPage (image area.Copy) batches (copied_page 2 page) page 34
copied_page_is zero below = record { version = 5; slots = Row row ∷ []; block = copied_block_is; stands = copied_stands }
copied_page_is (suc page) below = absurd (omega (arith, below))

zeros_after : IsZeroBlock (image area.Copy) (block_at (copied_block 2 0))
zeros_after = record {
  each = λ at after below. rw (le-ltb at half_at (omega (arith, after))) (get_or_past copied (at - half_at) 0 (omega (arith, after)));
}

copied_entries : (block : ℕ) → block < 1 → HasEntries One (image area.Copy) batches (copied_block 2 block) block 34
copied_entries zero below = only_block (image area.Copy) (copied_block 2 0) 0 34 zeros_after below
copied_entries (suc block) below = absurd (omega (arith, below))

copy_is_sound : IsCopyOfFile (image area.Copy) start fields batches
copy_is_sound = record {
  covers = lit≤ tt;
  copy = record { gate = inr (inl refl); pages = copied_page_is; blocks = copied_entries; below = (tt, (lit< tt, tt)) };
}

-- ---- the image is whole

page_is_whole : (page : ℕ) → page < 1 → IsPageWhole image fields batches page
page_is_whole zero below = (
  0,
  (Some listing, names_it, refl),
  record {
    version = 0;
    slots = [];
    block = zeros_are_empty.page (image area.Data) 0 (record { each = λ at after inside. refl });
    stands = page_stands;
  },
)
page_is_whole (suc page) below = absurd (omega (arith, below))

block_is_whole : (block : ℕ) → block < 1 → IsBlockWhole image One fields batches block
block_is_whole block below =
    (34, (Some listing, names_it, refl), only_block (image area.Space) block block 34 (record { each = λ at after inside. refl }) below)

whole : IsWholeWith image start fields batches
whole = record {
  sound = record {
    master = has_fields;
    version = refl;
    size = refl;
    has_log = has_log;
    log = log_is_sound;
    checkpoint = checkpoint_is_sound;
    copy = inr copy_is_sound;
  };
  blocks = λ restored. record { pages = page_is_whole; blocks = block_is_whole };
}

-- restart repeats the log from its begin on, as page 0 was listed with that
redo_point : IsRedoPoint fields batches 0
redo_point = inr (refl, (Some listing, names_it, refl))

-- page 0 may not lack the insert where it is not listed: the insert is of a batch from before the checkpoint's
not_listed : StandsFor (batch_of batches) history 0 0 [] 34 → ⊥
not_listed stands = omega (arith, (((stands.1 (lit< tt)).1.1 (lit< tt)).1.1 (lit< tt)).0 refl)
