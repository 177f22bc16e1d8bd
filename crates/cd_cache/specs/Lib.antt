pub mod Cache
pub mod Index
pub mod Lost
pub mod Rates
pub mod Rows
pub mod Renewal
