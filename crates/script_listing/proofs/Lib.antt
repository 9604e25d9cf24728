pub mod Events
pub mod Legal
pub mod Whole
pub mod Input
