-- A new volume is whole: its blocks are zeros, which have no record, and its log is empty.
use Rattle.std.proofs.Common.{inl, None, ℕ, ◌≤◌, ◌<◌, ◌+◌, ◌*◌, [], refl, arith}
use Rattle.rm_types.specs.declared.areas.Area.TheVariants.{Data, Space}
use Rattle.rm_types.specs.declared.formats.Format.{Format}
use Rattle.rm_types.specs.declared.formats.Format.TheVariants.{One}
use Rattle.rm_types.specs.declared.numbers.TheConstants.{BLOCK_SIZE}
use Rattle.rm_types.specs.Formats.{blocks_of}
use Rattle.rm_outside.specs.Images.{Bytes, Image}
use Rattle.rm_master.specs.Fields.{fresh_fields}
use Rattle.rm_master.specs.Fresh.{IsZeroBelow, IsFresh}
use Rattle.rm_history.specs.Acts.{History}
use Rattle.rm_history.specs.Legal.{IsLegal}
use Rattle.rm_block.specs.Blocks.{block_at}
use Rattle.rm_block.specs.Laws.{IsZeroBlock}
use Rattle.rm_block.proofs.Zeros.{zeros_are_empty}
use Rattle.rm_image.specs.Whole.{IsPageWhole, IsBlockWhole}
use Rattle.rm_image.specs.ImageLaws.{FreshIsSound, FreshIsWhole}

-- no record is in the log, no checkpoint is named, and no copy
pub fresh_is_sound : (Rules : Format → History → Type 0) → FreshIsSound Rules
fresh_is_sound Rules pages c rules fresh = record {
  master = fresh.fields;
  version = refl;
  size = refl;
  has_log = record { stands = tt; closed = fresh.cleared.gate };
  log = record { rules = rules; below = tt; room = omega arith };
  checkpoint = record { named = None; has = refl; pages = λ place none. absurd none; blocks = λ place none. absurd none };
  copy = inl refl;
}

-- a block in the bytes that are zeros is one of zeros
zero_block : (area : Bytes) (len number : ℕ) → IsZeroBelow area len → BLOCK_SIZE * (number + 1) ≤ len
    → IsZeroBlock area (block_at number)
zero_block area len number zero inside = record { each = λ at after below. zero.each at (omega (arith, inside)) }

module _ (pages : ℕ) (c : Image) (fresh : IsFresh pages c) where
  -- each page has no record, and each block of the inventory has none
  page_is_whole : (page : ℕ) → page < pages → IsPageWhole c (fresh_fields pages) [] page
  page_is_whole page inside = (
    0,
    (None, refl, refl),
    record {
      version = 0;
      slots = [];
      block =
          zeros_are_empty.page (c Data) (block_at page) (zero_block (c Data) _ page fresh.cleared.data_blocks (omega (arith, inside)));
      stands = (refl, refl);
    },
  )

  block_is_whole : (block : ℕ) → block < blocks_of pages → IsBlockWhole c One (fresh_fields pages) [] block
  block_is_whole block inside = (
    0,
    (None, refl, refl),
    record {
      version = 0;
      entries = λ index. 0;
      is_block =
          zeros_are_empty.entries (c Space) (block_at block) (zero_block (c Space) _ block fresh.cleared.space (omega (arith, inside)));
      stands = (refl, λ index below. refl);
    },
  )

pub fresh_is_whole : FreshIsWhole
fresh_is_whole pages c fresh = record {
  start = record { format = One; pages = pages };
  fields = fresh_fields pages;
  batches = [];
  whole = record {
    sound = fresh_is_sound IsLegal pages c tt fresh;
    blocks = λ restored. record { pages = page_is_whole pages c fresh; blocks = block_is_whole pages c fresh };
  };
}
