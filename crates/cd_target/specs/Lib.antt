pub mod Placeholders
pub mod Targets
