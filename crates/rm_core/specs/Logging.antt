-- A trace tells its log: each record but what a change leaves in its slot, which the reply tells, and a checkpoint's lists.
use Rattle.std.specs.Prelude.{◌≡◌, ℕ, List, [], ◌∷◌, Option, Some, None, ◌⊎◌}
use Rattle.rm_core.specs.Below.{Format, Slot, Row, Act, Change, Listing, History, changes, undoes, enters}
use Rattle.rm_core.specs.Below.{commits, ends, lists, marks, IsLast, entry_for, undo_for, Seen}
use Rattle.rm_core.specs.Effects.{setting, entry_now}
use Rattle.rm_core.specs.Events.{Event}
use Rattle.rm_core.specs.Outcomes.{Outcome, inserted, altered}
use Rattle.rm_events.specs.declared.events.Seen.TheVariants as sees

-- the record that an event tells, after these
abbrev pub IsRecord : Format → History → ℕ → Seen → Option Outcome → Act → Type 0
IsRecord format before txn (sees.Change rid lsn) _ act = (slot : Slot) × (act ≡ changes (setting before txn rid slot lsn))
IsRecord format before txn (sees.Settle page lsn) (Some outcome) act = act ≡ enters (entry_now format before txn page lsn)
IsRecord format before txn (sees.Settle page lsn) None act =
    (last : Change) × IsLast before txn last × (last.rid.page ≡ page) × (act ≡ enters (entry_for format lsn before last))
IsRecord format before txn (sees.Undo undone lsn) _ act = (last : Change) × IsLast before txn last × (last.lsn ≡ undone) × (act ≡ undoes (undo_for lsn last))
IsRecord format before txn (sees.End lsn) _ act = act ≡ ends (record { lsn = lsn; txn = txn })
IsRecord format before txn (sees.Commit lsn) _ act = act ≡ commits (record { lsn = lsn; txn = txn })
IsRecord format before txn (sees.Append lsn) _ act = (l : Listing) × (l.lsn ≡ lsn) × (act ≡ marks (lists l))
IsRecord format before txn _ _ act = ⊥

-- an outcome tells what its change left in the slot
abbrev pub Writes : Outcome → Change → Type 0
Writes (inserted row rid) last = (last.rid ≡ rid) × (last.after ≡ Row row)
Writes (altered rid slot) last = (last.rid ≡ rid) × (last.after ≡ slot)
Writes outcome last = ⊥

-- the reply after a change tells it: that change is the transaction's last pending one
abbrev pub TellsChange : History → ℕ → Seen → Option Outcome → Type 0
TellsChange history txn (sees.Settle page lsn) (Some outcome) = (last : Change) × IsLast history txn last × Writes outcome last
TellsChange history txn _ _ = Unit {0}

-- the LSN that an event tells, 0 where it tells of no record
abbrev pub lsn_in : Seen → ℕ
lsn_in (sees.Change rid lsn) = lsn
lsn_in (sees.Settle page lsn) = lsn
lsn_in (sees.Undo undone lsn) = lsn
lsn_in (sees.End lsn) = lsn
lsn_in (sees.Commit lsn) = lsn
lsn_in (sees.Append lsn) = lsn
lsn_in seen = 0

-- The records past the opened log are, in order, those of the events that have an LSN.
abbrev pub TellsLog : Format → History → List Event → History → Type 0
TellsLog format start [] history = history ≡ start
TellsLog format start (newest ∷ before) history =
    ((lsn_in newest.seen ≡ 0) × TellsChange history newest.txn newest.seen newest.done × TellsLog format start before history)
    ⊎ ((act : Act) × (earlier : History) × (history ≡ act ∷ earlier) × IsRecord format earlier newest.txn newest.seen newest.done act
    × TellsChange earlier newest.txn newest.seen newest.done × TellsLog format start before earlier)
