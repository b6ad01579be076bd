pub mod CheckSums
pub mod Rests
