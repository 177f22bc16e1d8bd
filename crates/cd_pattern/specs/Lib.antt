pub mod Compiled
pub mod Fields
pub mod Patterns
pub mod Seen
