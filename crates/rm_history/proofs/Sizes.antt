-- How many bytes records have, and what the LSN of the next one is above.
use Rattle.std.proofs.Common.{◌≡◌, inl, inr, ℕ, ◌+◌, ◌<◌, ◌≤◌, [], ◌∷◌, length, refl, arith, length-append}
use Rattle.rm_types.specs.declared.numbers.Rid.{Rid}
use Rattle.rm_types.specs.declared.slots.Slot.{Slot}
use Rattle.rm_types.specs.declared.slots.Slot.TheVariants.{Vacant, Row}
use Rattle.rm_model.specs.Pages.{row_length}
use Rattle.rm_record.specs.Records.{spelling, row_bytes}
use Rattle.rm_record.proofs.SizeLaws.{length-checkpoint}
use Rattle.rm_history.specs.Acts.{Act, Undo, Entry, Finish, History, changes, undoes, enters, commits, ends, lists, newest_lsn, marks}
use Rattle.rm_history.specs.Sizes.{change_record, size_of, end_of, IsNext}

pub entry_size : (e : Entry) → size_of (enters e) ≡ 10
unfolding size_of
entry_size e = refl

pub commit_size : (f : Finish) → size_of (commits f) ≡ 5
unfolding size_of
commit_size f = refl

pub end_size : (f : Finish) → size_of (ends f) ≡ 5
unfolding size_of
end_size f = refl

pub undo_size : (u : Undo) → size_of (undoes u) ≤ 30 + row_length u.back
unfolding size_of
undo_size u = elim u.back as (λ back. size_of (undoes (record u { back = back })) ≤ 30 + row_length back) [ Vacant ↦ omega arith | Row row ↦ omega arith ]

change_size : (txn under : ℕ) (rid : Rid) (need : ℕ) (before after : Slot) → 0 < length (spelling (change_record txn under rid need before after))
change_size txn under rid need Vacant Vacant = omega arith
change_size txn under rid need Vacant (Row new) = omega arith
change_size txn under rid need (Row old) Vacant = omega arith
change_size txn under rid need (Row old) (Row new) = omega (arith, length-append (row_bytes old) (row_bytes new))

-- each record has bytes
pub size_some : (act : Act) → 0 < size_of act
unfolding size_of
size_some (changes c) = change_size c.txn c.under c.rid c.need c.before c.after
size_some (undoes u) = omega arith
size_some (enters e) = omega arith
size_some (commits f) = omega arith
size_some (ends f) = omega arith
size_some (marks (lists l)) = omega (arith, length-checkpoint l.next l.losers l.pages l.blocks)

-- the next LSN is above the newest one, and within a batch's header of the log's end
pub next_above : (history : History) (lsn : ℕ) → IsNext history lsn → newest_lsn history < lsn
next_above [] lsn is = omega (arith, is)
next_above (newest ∷ before) lsn (inl is) = omega (arith, is, size_some newest)
next_above (newest ∷ before) lsn (inr is) = omega (arith, is, size_some newest)

pub next_within : (history : History) (lsn : ℕ) → IsNext history lsn → lsn ≤ end_of history + 5
next_within [] lsn is = omega (arith, is)
next_within (newest ∷ before) lsn (inl is) = omega (arith, is)
next_within (newest ∷ before) lsn (inr is) = omega (arith, is)

pub next_after : (history : History) (lsn : ℕ) → IsNext history lsn → end_of history ≤ lsn
next_after [] lsn is = omega (arith, is)
next_after (newest ∷ before) lsn (inl is) = omega (arith, is)
next_after (newest ∷ before) lsn (inr is) = omega (arith, is)
