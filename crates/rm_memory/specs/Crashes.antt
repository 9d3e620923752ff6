-- One image that a crash may leave, chosen by the bits of a number.
use Rattle.std.specs.Prelude.{ℕ, ◌+◌, ◌/◌, ◌%◌, ◌^◌, ◌==◌, ◌&&◌, ◌||◌, Bool, false, not, List, [], ◌∷◌, length, replicate, if◌then◌else◌}
use Rattle.rm_types.specs.declared.areas.Area.{Area}
use Rattle.rm_outside.specs.Areas.{is_blocked}
use Rattle.rm_outside.specs.Images.{Image}
use Rattle.rm_memory.specs.declared.crash.TheConstants.{FILLING, CHOICES}
use Rattle.rm_outside.specs.Areas.{is_same}
use Rattle.rm_outside.specs.Puts.{put}
use Rattle.rm_outside.specs.History.{Event, Write, Sync}

-- no area
abbrev pub none : Area → Bool
none = λ _. false

-- these areas and one more
abbrev pub with_area : (Area → Bool) → Area → Area → Bool
with_area areas area = λ other. is_same area other || areas other

-- How many writes are unsynced, where these areas were synced later: so a write's number is the count of
-- those before it.
unfoldable pub unsynced : List Event → (Area → Bool) → ℕ
unsynced [] synced = 0
unsynced (Write area at bytes took ∷ rest) synced = unsynced rest synced + (if synced area then 0 else 1)
unsynced (Sync area ∷ rest) synced = unsynced rest (with_area synced area)

-- bit i of the outcome
abbrev pub bit : ℕ → ℕ → Bool
bit outcome i = (outcome / 2 ^ i) % 2 == 1

-- A write is applied: a synced one where it took, and of the others those that their bit chooses.
abbrev pub applies : ℕ → ℕ → Bool → Bool → Bool
applies outcome number synced took = if synced then took else bit outcome (number % CHOICES)

-- The range of a write that is not applied is filled: where the bit after the choices is set, outside the areas of blocks.
abbrev pub fills : ℕ → Bool → Area → Bool
fills outcome synced area = not synced && (bit outcome CHOICES && not (is_blocked area))

-- the image once that write is applied, fills its range or is lost
abbrev pub after_write : Bool → Bool → Image → Area → ℕ → List ℕ → Image
after_write applied filled image area at bytes =
    if applied then put image area at bytes else (if filled then put image area at (replicate (length bytes) FILLING) else image)

-- the image that this outcome leaves, where these areas were synced later
unfoldable pub left : ℕ → Image → List Event → (Area → Bool) → Image
left outcome base [] synced = base
left outcome base (Write area at bytes took ∷ rest) synced =
    after_write (applies outcome (unsynced rest synced) (synced area) took) (fills outcome (synced area) area) (left outcome base rest synced) area at bytes
left outcome base (Sync area ∷ rest) synced = left outcome base rest (with_area synced area)
