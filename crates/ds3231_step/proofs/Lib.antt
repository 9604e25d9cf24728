pub mod Lossless
pub mod SoundLaws
