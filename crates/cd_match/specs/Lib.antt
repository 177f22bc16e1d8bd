pub mod Matches
pub mod Refusals
pub mod Sought
