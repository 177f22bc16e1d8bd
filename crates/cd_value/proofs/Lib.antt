pub mod Cuts
pub mod Readable
pub mod Fronts
pub mod Names
pub mod Cleaned
