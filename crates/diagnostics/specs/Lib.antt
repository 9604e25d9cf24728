pub mod Reports
pub mod Lent
pub mod ByValue
