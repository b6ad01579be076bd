pub mod ChangedSheet
pub mod Theorem
pub mod SelfXor
pub mod ChangeCall
pub mod Answered
