pub mod AsTime
pub mod Dates
pub mod Answers
pub mod Formula
pub mod Stated
pub mod Text
