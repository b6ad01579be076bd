pub mod Rooms
pub mod Calls
pub mod Accepted
pub mod Answers
