-- The names of the crates below and of this one, in one place for the proofs.
pub use Rattle.rm_core.proofs.Grants.{joined_any, joined_alone, more-released, released-less, alone_has}
pub use Rattle.rm_core.specs.Below.{Rid, Change, Finish, Entry, Undo, Act, History, changes, undoes, enters, commits, ends, Fits, pending_of, last_of, need_of, others_need}
pub use Rattle.rm_core.specs.Below.{undo_for, entry_for, MAX_SLOT, CAPACITY, Op, page_of, slot_at, Slot, Vacant, Row, used, set_slot, row_at, row_length, sum_below, growth_for}
pub use Rattle.rm_core.specs.Below.{IsSlotForRow, newest_lsn, lsn_of, Format}
pub use Rattle.rm_core.specs.Names.{Setting, State, Seat, seat_at, empty_seat, Grant, HasGrant, HoldsAlone, Blocks, has_it, joined, released, IsHeld, IsInside}
pub use Rattle.rm_core.specs.Names.{staged, change_of, dropped, upto, idle, forces, finishes, rolls, returns, compensates, HasNumber, value_at, bytes_for, owed_by, owed, entry_now}
pub use Rattle.rm_core.specs.Room.{TXN_BYTES, owes_at}
pub use Rattle.rm_desk.specs.Desks.{Sessions, state_of, DeskValue, IsReadyFor, undo_fits, seated, goes, begun, logged, committed, ended, undone, saved, rewound, Tables}
pub use Rattle.rm_desk.specs.Desks.{stage_at, saves_of, seat_from, pending_by, IsAccounted, Accounts, Sits, owed_in, IsOn, Goes, AreKept, IsKept, prepared}
pub use Rattle.rm_desk.specs.Granted.{IsFree, IsRefused, IsLeastHolder}
pub use Rattle.rm_desk.specs.Stacks.{StackValue, first_of, rest_of, top_of, stack_at, SetsStack, noted_of, newest_in, under_in}
pub use Rattle.rm_desk.specs.declared.stacks.PendingChange.{PendingChange}
pub use Rattle.rm_events.specs.declared.operations.Op.TheVariants.{Unbound}
pub use Rattle.rm_history.proofs.Chains.{last_is_of, last_is_inside}
pub use Rattle.rm_history.proofs.NeedSums.{need_of-change, need_of-change_other, pending_on-change, need_of-undo_other, pending_of-undo, pending_on-undo, room_kept}
pub use Rattle.rm_history.proofs.NeedSums.{fits_as_before, finish_fits}
pub use Rattle.rm_history.proofs.PendingSteps.{pending-change, pending-change_other, pending-undo_other, pending-commit, pending-commit_other, pending-end, pending-end_other}
pub use Rattle.rm_history.proofs.RoomLaws.{fitting_is_room}
pub use Rattle.rm_history.specs.Needs.{need_for, on_page, FitsOn}
pub use Rattle.rm_history.specs.Transactions.{greatest_txn}
pub use Rattle.rm_locks.proofs.Granted.{same_lock}
pub use Rattle.rm_locks.specs.LockTable.{LockTable, mode_in, entry_in, Holds, is_exclusive, IsLeastBlocker, is_same_lock, raised, Grants, Releases}
pub use Rattle.rm_model.proofs.Sums.{sum_below-one, sum_below-same, sum_below-more, sum_below-past}
pub use Rattle.rm_need.specs.Needs.{Reserved, need_in, HasEntry, with_need, HasRoom, IsOther}
pub use Rattle.rm_ops.specs.Stages.{stage_with, aim_with, row_in, new_slot, asked_by, outcome_with}
pub use Rattle.rm_ops.specs.Views.{View, HasSession, IsActive, is_over, IsOfFile, is_alone, number_in, number_of, saved_in, last_in, length_in}
pub use Rattle.rm_ops.specs.declared.stages.Aim.{Aim}
pub use Rattle.rm_ops.specs.declared.stages.LastChange.{LastChange}
pub use Rattle.rm_ops.specs.declared.stages.Stage.{Stage}
pub use Rattle.rm_ops.specs.declared.stages.Stage.TheVariants.{Idle, Settles, Forces, Rolls, Compensates}
pub use Rattle.rm_ops.specs.declared.stages.Made.TheVariants.{Inserted, Altered}
pub use Rattle.rm_play.specs.Choosing.{blocker, slot_for, has_number, first_from}
pub use Rattle.rm_txns.specs.Savepoints.{is_of, without, place_of, back_to}
pub use Rattle.rm_txns.specs.Tables.{Table, txn_of, owed_of, ChangesOnly, HasId, HaveOwnIds}
pub use Rattle.rm_txns.specs.Transactions.{after_commit, after_push, after_pop, after_save, after_back}
pub use Rattle.rm_txns.specs.declared.savepoints.Savepoint.{Savepoint}
pub use Rattle.rm_txns.specs.declared.transaction.TheConstants.{OWED}
pub use Rattle.rm_txns.specs.declared.transaction.Txn.{Txn}
pub use Rattle.rm_types.specs.declared.modes.Mode.{Mode}
pub use Rattle.rm_types.specs.declared.modes.Mode.TheVariants.{Shared, Exclusive}
pub use Rattle.rm_types.specs.declared.numbers.Lsn.{Lsn}
pub use Rattle.rm_types.specs.declared.numbers.TheConstants.{MAX_SESSIONS, MAX_PAGES, MAX_LOG}
pub use Rattle.rm_types.specs.declared.numbers.TxnId.{TxnId}
pub use Rattle.std.proofs.Common.{◌≡◌, ◌≤◌, ℕ, ◌↔◌, ◌⊎◌, inl, inr, Bool, true, false, IsTrue, if◌then◌else◌, eqb, List, [], ◌∷◌, Option, Some, None, is_some}
pub use Rattle.std.proofs.Common.{unwrap_or, IfSome, IfNone, refl, sym, subst, arith, ◌≢◌, ◌<◌, ◌+◌, IsSome, option_map, ◌==◌, length, slice_set, ap, ◌∙◌}
pub use Rattle.std.proofs.Common.{◌-◌, ◌^◌, find, map, zero, suc, slice_index_or}
pub use Rattle.std.proofs.lemmas.Bool.{eqb-true, cond_both, eq-eqb, false≢true, cases_lt, cases_eq, ne_eqb}
pub use Rattle.std.proofs.lemmas.Bool.Decides.{nat_tests}
pub use Rattle.std.proofs.lemmas.List.{length-set, get_or-set_same, get_or-set_other, get_or_past}
pub use Rattle.std.specs.Option.{ForSome}
pub use Rattle.std.specs.Prelude.{replicate}
