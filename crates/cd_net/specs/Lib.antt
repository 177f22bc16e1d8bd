pub mod Packet
pub mod Payload
pub mod Clean
pub mod InForce
pub mod Refusals
pub mod Items
pub mod Carried
