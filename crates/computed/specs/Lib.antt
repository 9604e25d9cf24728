pub mod Entries
pub mod Prelude
