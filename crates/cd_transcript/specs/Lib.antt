pub mod Transcripts
pub mod LineRuns
