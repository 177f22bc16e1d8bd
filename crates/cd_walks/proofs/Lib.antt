pub mod Loops
pub mod Stepping
pub mod Rounds
pub mod Least
