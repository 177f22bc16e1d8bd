pub mod Told
pub mod Rows
pub mod Faults
pub mod Slots
pub mod Registry
pub mod Flags
