pub mod Crossing
pub mod Finding
