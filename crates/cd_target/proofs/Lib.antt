pub mod Parts
pub mod Identifiers
pub mod Crossing
