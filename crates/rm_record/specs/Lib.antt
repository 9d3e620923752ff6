pub mod Places
pub mod Records
pub mod Fields
pub mod Reading
pub mod Laws
