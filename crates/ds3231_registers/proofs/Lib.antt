pub mod ClockLaws
pub mod RegisterLaws
