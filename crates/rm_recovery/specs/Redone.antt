-- What a redo of a log has found.
use Rattle.std.specs.Prelude.{◌≡◌, ℕ, ◌<◌, ◌≤◌, ◌⊎◌, [], ◌∷◌, ◌++◌}
use Rattle.rm_types.specs.declared.formats.TheConstants.{MAX_CATEGORY}
use Rattle.rm_record.specs.Records.{IsRecord}
use Rattle.rm_history.specs.Acts.{Act, History, changes, undoes, enters, commits, ends, marks, lsn_of, newest_lsn}
use Rattle.rm_history.specs.Contents.{page_of}
use Rattle.rm_history.specs.Counts.{repeat_count}
use Rattle.rm_history.specs.Sizes.{record_of}
use Rattle.rm_apply.specs.Redo.{CannotHave}
use Rattle.rm_recovery.specs.Losers.{AreLosers}
use Rattle.rm_recovery.specs.declared.redo.Redone.{Redone}

-- The record is none of a file of so many pages with these records before it: it names a page that the file lacks, its page cannot
-- have what it sets, it enters what is no category, or it is a checkpoint, which no log has yet.
abbrev pub IsMisfit : ℕ → History → Act → Type 0
IsMisfit pages before (changes c) = (pages ≤ c.rid.page) ⊎ CannotHave (page_of before c.rid.page) c.rid.slot c.after
IsMisfit pages before (undoes u) = (pages ≤ u.rid.page) ⊎ CannotHave (page_of before u.rid.page) u.rid.slot u.back
IsMisfit pages before (enters e) = (pages ≤ e.page) ⊎ (MAX_CATEGORY < e.category)
IsMisfit pages before (commits f) = ⊥
IsMisfit pages before (ends f) = ⊥
IsMisfit pages before (marks m) = Unit {0}

-- no record of the history is one
abbrev pub HasNoMisfit : ℕ → History → Type 0
HasNoMisfit pages [] = Unit {0}
HasNoMisfit pages (act ∷ before) = (IsMisfit pages before act → ⊥) × HasNoMisfit pages before

-- The record with this LSN is the first that is one.
pub record IsMisfitAt (pages : ℕ) (history : History) (at : ℕ) : Type 0 where
  pub more : History
  pub act : Act
  pub before : History
  pub split : history ≡ more ++ act ∷ before
  pub place : at ≡ lsn_of act
  pub misfit : IsMisfit pages before act
  pub first : HasNoMisfit pages before

-- each record's LSN is above those before it
abbrev pub AreRising : History → Type 0
AreRising [] = Unit {0}
AreRising (act ∷ before) = (newest_lsn before < lsn_of act) × AreRising before

-- each is in the ranges of records
abbrev pub AreRecords : History → Type 0
AreRecords [] = Unit {0}
AreRecords (act ∷ before) = IsRecord (record_of act) × AreRecords before

-- These records were redone in a file of so many pages: the frames have them, and so do the losers.
pub record Redoes (pages : ℕ) (history : History) (redone : Redone) : Type 0 where
  pub applied : redone.frames.applied ≡ history
  pub size : redone.frames.size ≡ pages
  pub losers : AreLosers history redone.losers
  pub count : redone.count ≡ repeat_count history
  pub fit : HasNoMisfit pages history
