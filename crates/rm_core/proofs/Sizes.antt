-- How many bytes records have, and what the LSN of the next one is above.
pub use Rattle.rm_history.proofs.Sizes.{entry_size, commit_size, end_size, undo_size, size_some, next_above, next_within, next_after}
