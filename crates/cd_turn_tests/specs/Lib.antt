pub mod Ticks
pub mod Family
pub mod Counts
pub mod Towers
