pub mod Lines
pub mod Grammar
pub mod Texts
pub mod Laws
pub mod Reading
pub mod Refusals
