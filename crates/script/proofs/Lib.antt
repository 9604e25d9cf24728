pub mod Copies
pub mod Own
pub mod Turns
pub mod RunLaws
pub mod RunVerdicts
pub mod HostLaws
