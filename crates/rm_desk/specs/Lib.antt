pub mod Granted
pub mod Stacks
pub mod Desks
