pub mod Views
pub mod Stages
pub mod Making
pub mod Looking
