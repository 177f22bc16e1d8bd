pub mod Defaults
pub mod Ending
pub mod OneAnswer
pub mod Reading
