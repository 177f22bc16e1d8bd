pub mod Due
pub mod Place
pub mod Schedule
pub mod NextReads
