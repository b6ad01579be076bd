pub mod Users
pub mod Index
pub mod Stays
pub mod IndexCall
pub mod Answered
