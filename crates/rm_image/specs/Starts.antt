-- What a log begins with, and the records before an offset.
use Rattle.std.specs.Prelude.{ℕ, nat_lt, if◌then◌else◌, List, [], ◌∷◌}
use Rattle.rm_types.specs.declared.formats.Format.{Format}
use Rattle.rm_master.specs.declared.fields.Fields.{Fields}
use Rattle.rm_history.specs.Acts.{History, lsn_of}
use Rattle.rm_history.specs.Logs.{Batch}
use Rattle.rm_history.specs.Contents.{format_after}
use Rattle.rm_history.specs.Batched.{acts_of_batches, size_after}

-- the format and the number of pages of the file that a log begins with
pub record Start : Type 0 where
  pub format : Format
  pub pages : ℕ

-- the format in force at the end of a log, and the number of pages
abbrev pub format_of : Start → List Batch → Format
format_of start batches = format_after start.format (acts_of_batches batches)

abbrev pub size_of : Start → List Batch → ℕ
size_of start batches = size_after start.pages (acts_of_batches batches)

-- the records of a history before this offset
abbrev pub records_before : ℕ → History → History
records_before at [] = []
records_before at (act ∷ before) = if nat_lt (lsn_of act) at then act ∷ before else records_before at before

-- those before the checkpoint that the master names, none where it names none
abbrev pub before_checkpoint : Fields → List Batch → History
before_checkpoint fields batches = records_before fields.checkpoint (acts_of_batches batches)
