pub mod JoinedSheet
pub mod Theorem
pub mod SelfXor
pub mod JoinCall
pub mod Answered
