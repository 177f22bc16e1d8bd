pub mod Settling
pub mod Running
pub mod Weighing
pub mod Accepting
pub mod Faults
pub mod Jumping
pub mod Steps
pub mod Places
pub mod Stepping
pub mod OfAccepted
pub mod Cycles
mod WorkedChains
