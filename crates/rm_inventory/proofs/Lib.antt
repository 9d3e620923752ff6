pub mod EmptyEntries
