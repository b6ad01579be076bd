pub mod Trial
pub mod Answered
