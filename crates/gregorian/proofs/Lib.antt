pub mod Months
pub mod Days
pub mod Weekdays
pub mod Checked
pub mod Seconds
pub mod Nearest
pub mod Examples
