pub mod Cleaned
pub mod Cutting
pub mod Decoding
pub mod Fields
pub mod Fitting
pub mod Texts
pub mod Values
