pub mod Parts
pub mod Passing
pub mod Users
pub mod Index
pub mod Sizes
pub mod Stays
pub mod Answered
