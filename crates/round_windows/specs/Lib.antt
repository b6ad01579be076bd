pub mod Last
pub mod Rounds
pub mod Windows
pub mod Least
pub mod Copies
pub mod WindowsCall
pub mod Answered
