pub mod Dialogues
pub mod Exchanges
pub mod Inputs
pub mod Served
