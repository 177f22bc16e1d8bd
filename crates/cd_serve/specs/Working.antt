-- How far a run has come: words of private contracts and of proofs. No public clause cites them.
pub mod Outside
pub mod Standing
pub mod Progress
pub mod Loading
pub mod Ended
