pub mod Promises
pub mod Started
pub mod Ends
pub mod Shelf
pub mod Tells
pub mod Working
