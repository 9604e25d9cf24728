pub mod Lossless
pub mod PowerLaws
