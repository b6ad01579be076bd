pub mod Pairs
pub mod Steps
pub mod Lists
pub mod Answered
