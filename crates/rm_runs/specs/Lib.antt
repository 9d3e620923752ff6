pub mod Cursors
pub mod Texts
