pub mod JoinedReports
pub mod Joined
pub mod SelfXor
pub mod Answered
