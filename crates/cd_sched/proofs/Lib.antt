pub mod Numbers
pub mod Places
pub mod Edits
pub mod Laws
pub mod Firsts
pub mod Resting
pub mod Heaps
pub mod Outcomes
mod WorkedReadings
