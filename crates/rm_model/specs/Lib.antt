pub mod Pages
pub mod Categories
pub mod Sums
pub mod Object
pub mod Files
pub mod Laws
