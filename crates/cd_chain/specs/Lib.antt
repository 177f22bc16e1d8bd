pub mod Chains
pub mod Tables
pub mod Weights
pub mod Refusals
pub mod Frames
