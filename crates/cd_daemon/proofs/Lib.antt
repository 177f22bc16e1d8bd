pub mod Lists
pub mod Legality
mod Answered
mod Settled
mod WorkedChains
mod WorkedHistories
pub mod Writers
pub mod Posted
pub mod Fresh
pub mod Uncalled
pub mod Owed
mod UnderWay
pub mod Leaving
