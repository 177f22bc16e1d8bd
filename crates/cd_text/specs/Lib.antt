pub mod Cutting
pub mod Digits
pub mod Millionths
pub mod Number
pub mod Quoting
pub mod Time
