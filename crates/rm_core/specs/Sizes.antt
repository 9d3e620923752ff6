-- The records of a history, their bytes, and the LSN that comes next.
pub use Rattle.rm_history.specs.Sizes.{change_record, record_of, end_of, IsNext}
unfoldable pub use Rattle.rm_history.specs.Sizes.{size_of}
