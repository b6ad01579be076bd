pub mod Outcome
pub mod Facts
