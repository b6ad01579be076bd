pub mod TrialCall
pub mod Theorem
pub mod Answered
