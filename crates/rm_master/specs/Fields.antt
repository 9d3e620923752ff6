-- The fields of a volume's master: their rules, and the bytes that spell them.
use Rattle.std.specs.Prelude.{◌≡◌, ◌≢◌, ℕ, ◌+◌, ◌^◌, ◌<◌, ◌≤◌, Bool, true, false, List, [], ◌∷◌, ◌++◌}
use Rattle.std.specs.Int.{w16, w32, w64, to_be_bytes}
use Rattle.rm_types.specs.declared.formats.Format.{Format}
use Rattle.rm_types.specs.declared.formats.Format.TheVariants.{One}
use Rattle.rm_types.specs.declared.numbers.TheConstants.{MAX_PAGES, MAX_LOG}
use Rattle.rm_master.specs.declared.fields.TheConstants.{VERSION, FIRST_RECORD, LAST_HALF}
use Rattle.rm_master.specs.declared.fields.Fields.{Fields}

-- the version is that of the format
abbrev pub IsOfFormat : Fields → Format → Type 0
IsOfFormat f One = f.version ≡ VERSION

-- the rules of the file's fields
pub record KeepFileRules (f : Fields) : Type 0 where
  pub known : f.version ≡ VERSION
  pub some_pages : 1 ≤ f.pages
  pub few_pages : f.pages ≤ MAX_PAGES

-- the rules of the checkpoint's fields
pub record KeepCheckpointRules (f : Fields) : Type 0 where
  pub batch_within : f.batch ≤ MAX_LOG
  pub within : f.checkpoint ≤ MAX_LOG
  pub none : f.checkpoint ≡ 0 → f.batch ≡ 0
  pub after_batch : f.checkpoint ≢ 0 → f.batch + FIRST_RECORD ≤ f.checkpoint

-- the rules of the copy's fields
pub record KeepCopyRules (f : Fields) : Type 0 where
  pub known : f.half ≤ LAST_HALF
  pub start_within : f.start ≤ MAX_LOG
  pub copied_within : f.copied ≤ f.pages
  pub some_copied : f.half ≢ 0 → 1 ≤ f.copied
  pub not_restoring : f.half ≡ 0 → f.restoring ≡ false
  pub no_start : f.half ≡ 0 → f.start ≡ 0
  pub none_copied : f.half ≡ 0 → f.copied ≡ 0

-- the rules of all fields
pub record IsFields (f : Fields) : Type 0 where
  pub file : KeepFileRules f
  pub checkpoint : KeepCheckpointRules f
  pub copy : KeepCopyRules f

-- the numbers fit their types
pub record AreInRange (f : Fields) : Type 0 where
  pub version : f.version < 2 ^ 16
  pub pages : f.pages < 2 ^ 32
  pub batch : f.batch < 2 ^ 64
  pub checkpoint : f.checkpoint < 2 ^ 64
  pub start : f.start < 2 ^ 64
  pub copied : f.copied < 2 ^ 32

-- the byte of a flag
abbrev pub flag_byte : Bool → ℕ
flag_byte false = 0
flag_byte true = 1

-- the 36 bytes of a slot
unfoldable pub slot_bytes : Fields → List ℕ
slot_bytes f =
    to_be_bytes w16 f.version
    ++ to_be_bytes w32 f.pages
    ++ to_be_bytes w64 f.batch
    ++ to_be_bytes w64 f.checkpoint
    ++ f.half ∷ flag_byte f.restoring ∷ []
    ++ to_be_bytes w64 f.start
    ++ to_be_bytes w32 f.copied

-- the fields of a new volume of this many pages
abbrev pub fresh_fields : ℕ → Fields
fresh_fields pages = record {
  version = VERSION;
  pages = pages;
  batch = 0;
  checkpoint = 0;
  half = 0;
  restoring = false;
  start = 0;
  copied = 0;
}
