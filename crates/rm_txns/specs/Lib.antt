pub mod Savepoints
pub mod Transactions
pub mod Tables
