pub mod Transcripts
pub mod Events
pub mod Determined
pub mod Fronts
pub mod Kept
pub mod Ends
pub mod Steady
mod WorkedTranscripts
