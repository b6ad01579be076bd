pub mod Example
pub mod ChangedBytes
pub mod ChangedQuestions
pub mod Changed
pub mod SelfXor
pub mod Answered
pub mod Stage
