pub mod Compiling
pub mod Crossing
