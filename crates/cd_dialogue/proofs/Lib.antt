pub mod Breaking
pub mod Closing
pub mod Exchanging
pub mod Families
pub mod Going
pub mod Inputs
pub mod Serving
pub mod Stepping
