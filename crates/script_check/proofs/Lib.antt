pub mod Bytes
pub mod Halves
pub mod LegalRecords
pub mod Folds
pub mod Laws
pub mod Lossless
