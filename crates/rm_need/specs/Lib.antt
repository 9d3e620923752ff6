pub mod Needs
pub mod Totals
