pub mod Renewed
pub mod IndexedCall
pub mod Theorem
pub mod Answered
