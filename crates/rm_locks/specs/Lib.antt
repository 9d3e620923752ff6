pub mod LockTable
pub mod Lists
