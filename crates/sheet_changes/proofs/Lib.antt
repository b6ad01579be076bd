pub mod Renewed
pub mod Written
