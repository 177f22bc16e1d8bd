pub mod Performing
pub mod Handling
pub mod Calls
pub mod Answers
pub mod Legal
pub mod Settled
pub mod Flushes
