pub mod Causes
pub mod Faults
pub mod File
pub mod Laws
pub mod Messages
pub mod Opened
pub mod Types
