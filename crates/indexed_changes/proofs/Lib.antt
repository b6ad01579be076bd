pub mod Replaced
pub mod OtherReports
pub mod Renewed
pub mod Own
pub mod Changed
pub mod Answered
pub mod Lists
