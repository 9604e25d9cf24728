pub mod Laws
pub mod Lossless
pub mod Examples
pub mod Digits
