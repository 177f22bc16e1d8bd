pub mod Places
pub mod Changed
pub mod Kept
pub mod Ats
pub mod Numbered
