pub mod Calendar
pub mod DayNumbers
pub mod Times
pub mod Ranges
pub mod Nearest
