pub mod Coming
pub mod Files
pub mod Moves
pub mod Rises
pub mod Speaking
pub mod Taken
pub mod Taking
pub mod Writing
