-- The meaning of a log once more, said of the log as it stands, the oldest record first. It is the same (Laws).
use Rattle.std.specs.Prelude.{◌≡◌, ℕ, ◌+◌, ◌≤◌, ◌==◌, if◌then◌else◌, List, [], ◌∷◌, ◌++◌, Bool, false, ◌||◌, sum_by, None}
use Rattle.rm_model.specs.Pages.{row_length}
use Rattle.rm_model.specs.Object.{Rows}
use Rattle.rm_history.specs.Acts.{Act, Change, changes, undoes, enters, commits, ends, marks}
use Rattle.rm_history.specs.Rows.{with_slot}

-- what the records of a log do, the oldest first
abbrev pub Acts : Type 0
Acts = List Act

-- some compensation names the record with this LSN
abbrev pub is_undone : ℕ → Acts → Bool
is_undone lsn [] = false
is_undone lsn (undoes u ∷ later) = (u.undone == lsn) || is_undone lsn later
is_undone lsn (changes c ∷ later) = is_undone lsn later
is_undone lsn (enters e ∷ later) = is_undone lsn later
is_undone lsn (commits f ∷ later) = is_undone lsn later
is_undone lsn (ends f ∷ later) = is_undone lsn later
is_undone lsn (marks m ∷ later) = is_undone lsn later

-- the transaction's changes among these records that none of the log names as undone, in order
abbrev pub net_among : Acts → ℕ → Acts → List Change
net_among log txn [] = []
net_among log txn (changes c ∷ later) =
    if c.txn == txn then (if is_undone c.lsn log then net_among log txn later else c ∷ net_among log txn later) else net_among log txn later
net_among log txn (undoes u ∷ later) = net_among log txn later
net_among log txn (enters e ∷ later) = net_among log txn later
net_among log txn (commits f ∷ later) = net_among log txn later
net_among log txn (ends f ∷ later) = net_among log txn later
net_among log txn (marks m ∷ later) = net_among log txn later

-- the net changes of a transaction
abbrev pub net : Acts → ℕ → List Change
net log txn = net_among log txn log

-- the transactions with a commit record, in the order of these
abbrev pub winners : Acts → List ℕ
winners [] = []
winners (commits f ∷ later) = f.txn ∷ winners later
winners (changes c ∷ later) = winners later
winners (undoes u ∷ later) = winners later
winners (enters e ∷ later) = winners later
winners (ends f ∷ later) = winners later
winners (marks m ∷ later) = winners later

-- the rows with these changes, the first of them first
abbrev pub made : Rows → List Change → Rows
made rows [] = rows
made rows (first ∷ later) = made (with_slot rows first.rid first.after) later

-- the rows with the net changes of these transactions
abbrev pub won : Acts → Rows → List ℕ → Rows
won log rows [] = rows
won log rows (first ∷ later) = won log (made rows (net log first)) later

-- the rows of a log: those of its winners
abbrev pub rows_of_acts : Acts → Rows
rows_of_acts log = won log (λ rid. None) (winners log)

-- the bytes that changes gave up, and those that they took
abbrev pub lost : List Change → ℕ
lost changed = sum_by (λ c. row_length c.before) changed

abbrev pub gained : List Change → ℕ
gained changed = sum_by (λ c. row_length c.after) changed

-- The need of these changes, the oldest first: the most that any of the last of them gave up more than they took.
pub record IsNeed (changed : List Change) (need : ℕ) : Type 0 where
  pub most : (earlier last : List Change) → changed ≡ earlier ++ last → lost last ≤ need + gained last
  pub earlier : List Change
  pub last : List Change
  pub cut : changed ≡ earlier ++ last
  pub is : need + gained last ≡ lost last
