pub mod Records
pub mod Judging
