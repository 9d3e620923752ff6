pub mod Compatible
