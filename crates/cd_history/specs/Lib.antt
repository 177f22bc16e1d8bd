pub mod History
pub mod Order
pub mod Registrations
pub mod Leases
