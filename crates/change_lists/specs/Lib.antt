pub mod Pairs
pub mod Applied
pub mod Theorem
pub mod ChangesCall
pub mod Answered
