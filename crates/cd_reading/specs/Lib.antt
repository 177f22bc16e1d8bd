pub mod First
pub mod Gives
